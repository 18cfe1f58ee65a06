-- The room of a store: more is enough for less, and room may be made again and again.
use Rattle.std.proofs.Common.{ℕ, ◌≤◌, ◌∙◌, ap, arith, refl, sym}
use Rattle.disk_model.specs.Carried.{TellsSame}
use Rattle.disk_model.specs.Disk.{Stays, View}
use Rattle.journal.specs.Journal.{JournalView}
use Rattle.open_store.specs.Commits.{HasRoomFor}
use Rattle.open_store.specs.Standing.{IsRoomier}

pub room_less : (journal : JournalView) (view : View) (less more : ℕ) → less ≤ more
    → HasRoomFor journal view more → HasRoomFor journal view less
room_less journal view less more le has some =
    let there = has (omega (arith, some, le)) in
    record {
      block = omega (arith, there.block, le);
      end = omega (arith, there.end, le);
      head = there.head;
      fits = omega (arith, there.fits, le);
      writes = there.writes;
    }

-- nothing changes where nothing is done
pub stays_same : (v : View) → Stays v v
stays_same v = record {
  contents = refl;
  moment = refl;
  no_more = λ c left. left;
  no_fewer = λ c left. left;
  no_more_since = λ t c left. left;
  no_fewer_since = λ t c left. left;
  changing = refl;
  tells = refl;
}

stays_then : (u v w : View) → Stays u v → Stays v w → Stays u w
stays_then u v w first second = record {
  contents = second.contents ∙ first.contents;
  moment = second.moment ∙ first.moment;
  no_more = λ c left. first.no_more c (second.no_more c left);
  no_fewer = λ c left. second.no_fewer c (first.no_fewer c left);
  no_more_since = λ t c left. first.no_more_since t c (second.no_more_since t c left);
  no_fewer_since = λ t c left. second.no_fewer_since t c (first.no_fewer_since t c left);
  changing = second.changing ∙ first.changing;
  tells = second.tells ∙ first.tells;
}

pub roomier_then : (i j k : JournalView) (u v w : View) → IsRoomier i j u v → IsRoomier j k v w
    → IsRoomier i k u w
roomier_then i j k u v w first second = record {
  journal = second.journal
      ∙ ap (λ (x : JournalView). record x { room = k.room }) first.journal;
  stands = λ c frames stands. second.stands c frames (first.stands c frames stands);
  rests = λ rests. second.rests (first.rests rests);
  stays = stays_then u v w first.stays second.stays;
  fine = record {
    faults = second.fine.faults ∙ first.fine.faults;
    off = second.fine.off ∙ first.fine.off;
    failures = second.fine.failures ∙ first.fine.failures;
    cuts = second.fine.cuts ∙ first.fine.cuts;
  };
}

pub roomier_same : (j : JournalView) (v : View) → IsRoomier j j v v
roomier_same j v = record {
  journal = refl;
  stands = λ c frames stands. stands;
  rests = λ rests. rests;
  stays = stays_same v;
  fine = record { faults = refl; off = refl; failures = refl; cuts = refl };
}

-- a disk tells the same
pub roomier_told : (j : JournalView) (v w : View) → TellsSame v w → IsRoomier j j v w
roomier_told j v w same = record {
  journal = refl;
  stands = λ c frames stands. stands;
  rests = λ rests. record {
    settled = λ c left. same.stays.contents ∙ rests.settled c (same.stays.no_more c left);
    stands = λ c told. rests.stands c (sym same.stays.contents ∙ told);
  };
  stays = same.stays;
  fine = record { faults = same.faults; off = same.off; failures = same.failures; cuts = same.cuts };
}
