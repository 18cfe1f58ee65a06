-- What an opening of a store in memory finds, and what is told of the other stores.
use Rattle.std.proofs.Common.{◌≡◌, ℕ, List, Some, None, refl, sym, ap, subst, ◌∙◌}
use Rattle.std.specs.Prelude.{unwrap_or, String}
use Rattle.std.specs.declared.alloc.Global.{Global}
use Rattle.disk_model.specs.History.{Held, held, ImageOf}
use Rattle.disk_model.specs.MemDisk.{MemView, view_of}
use Rattle.hosts.specs.Entries.{found_at, without_first}
use Rattle.hosts.specs.Hosts.{HoldsOneOf, LeavesOtherStores, SameImages}
use Rattle.hosts.specs.MemoryStores.{disk_at, empty_disk, images_at}
use Rattle.hosts.proofs.EntryLemmas.{others_stay}

-- what is found at a path is its disk
pub disk_found : (stores : List (String Global × MemView)) (path : List ℕ) (disk : MemView) → found_at stores path ≡ Some disk → disk_at stores path ≡ disk
disk_found stores path disk is = ap (λ found. unwrap_or found empty_disk) is

pub none_found : (stores : List (String Global × MemView)) (path : List ℕ) → found_at stores path ≡ None → disk_at stores path ≡ empty_disk
none_found stores path is = ap (λ found. unwrap_or found empty_disk) is

-- an image of a disk that holds the same is one of the path's
pub holds_image : (there before now : MemView) → held before.past ≡ held there.past
    → ((file : List ℕ) → (view_of now).contents ≡ Some file → (view_of before).may_leave file)
    → HoldsOneOf (ImageOf (held there.past)) (view_of now)
holds_image there before now same image =
    let P : Held → Type 0 = λ h. ImageOf h (held now.past).contents in
    ((held now.past).contents, refl, subst P same (image (held now.past).contents refl))

-- the images of one disk are the same
pub same_images : (before now : MemView) → now ≡ before → SameImages (ImageOf (held before.past)) (ImageOf (held now.past))
same_images before now is = record {
  no_more = λ file image. let P : MemView → Type 0 = λ disk. ImageOf (held disk.past) file in subst P is image;
  no_fewer = λ file image. let P : MemView → Type 0 = λ disk. ImageOf (held disk.past) file in subst P (sym is) image;
}

-- what is told of other paths stays where the first store of a path is gone
pub others_left : (stores now : List (String Global × MemView)) (path : List ℕ) → now ≡ without_first stores path → LeavesOtherStores path (images_at stores) (images_at now)
others_left stores now path is other differs =
    same_images (disk_at stores other) (disk_at now other)
    (ap (λ entries. disk_at entries other) is ∙ ap (λ found. unwrap_or found empty_disk) (others_stay stores path other differs))
