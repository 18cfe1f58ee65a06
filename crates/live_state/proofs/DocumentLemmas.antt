-- The documents of the frames up to a number.
use Rattle.std.proofs.Common.{◌≡◌, ◌<◌, ◌≤◌, ℕ, zero, suc, ◌+◌, ◌-◌, List, [], ◌∷◌, ◌++◌, map, Option, Some, None, refl, append_assoc, ap, sym, ◌∙◌, arith}
use Rattle.std.specs.List.{cons_option, filter_map, range_with_len}
use Rattle.std.specs.Option.{option_to_list}
use Rattle.std.specs.Prelude.{option_map}
use Rattle.std.proofs.lemmas.List.{append-nil, map-id}
use Rattle.std.proofs.lemmas.List.Elements.{filter_map-append}
use Rattle.std.proofs.lemmas.List.FromFn.{map-range_with_len_more}
use Rattle.frame_tree.specs.Tree.{IsLastFrame, PlainFrame}
use Rattle.frame_tree.specs.Keys.{key_of_frame}
use Rattle.live_state.specs.Documents.{frame_numbers, keyed, plain_keyed}
use Rattle.agent_base.specs.declared.refusals.Label.{Label}
use Rattle.storage_key.specs.Key.{PlainKey}
use Rattle.storage_key.specs.declared.key.StorageKey.{StorageKey}
use Rattle.live_state.proofs.OnceLemmas.{frame-there}

-- one number more
range_more : (n : ℕ) → range_with_len 0 (n + 1) ≡ range_with_len 0 n ++ n ∷ []
range_more n =
    sym (map-id (range_with_len 0 (n + 1)))
    ∙ map-range_with_len_more (λ k. k) 0 n n (omega arith)
    ∙ ap (λ l. l ++ n ∷ []) (map-id (range_with_len 0 n))

one_by : {Y : Type 0} (o : Option Y) → cons_option o [] ≡ option_to_list o
one_by None = refl
one_by (Some y) = refl

pub filter_map-more : {Y : Type 0} (h : ℕ → Option Y) (n : ℕ)
    → filter_map h (range_with_len 0 (n + 1)) ≡ filter_map h (range_with_len 0 n) ++ option_to_list (h n)
filter_map-more h n =
    ap (filter_map h) (range_more n)
    ∙ filter_map-append h (range_with_len 0 n) (n ∷ [])
    ∙ ap (λ l. filter_map h (range_with_len 0 n) ++ l) (one_by (h n))

-- a number behind the last frame has no key
no-key : (number : ℕ) (frames : List PlainFrame) (last n : ℕ) → IsLastFrame last frames → last < n → keyed number frames n ≡ None
no-key number frames last n is behind = by (key_of_frame n frames) refl
  where
    by : (key : Option PlainKey) → key_of_frame n frames ≡ key → option_map {U = Label × PlainKey} (λ key. (record { tab = number; frame = n }, key)) key ≡ None
    by None own = refl
    by (Some key) own = let low : n ≤ last = is.highest n (frame-there n frames key own) in absurd (omega arith)

module _ (number : ℕ) (frames : List PlainFrame) (last : ℕ) (is : IsLastFrame last frames) where
  behind-last : (more : ℕ) → filter_map (keyed number frames) (range_with_len 0 (last + 1 + more)) ≡ filter_map (keyed number frames) (range_with_len 0 (last + 1))
  behind-last zero =
      let none : last + 1 + 0 ≡ last + 1 = omega arith in ap (λ n. filter_map (keyed number frames) (range_with_len 0 n)) none
  behind-last (suc more) =
      let next : last + 1 + suc more ≡ last + 1 + more + 1 = omega arith in
      ap (λ n. filter_map (keyed number frames) (range_with_len 0 n)) next
      ∙ filter_map-more (keyed number frames) (last + 1 + more)
      ∙ ap (λ o. filter_map (keyed number frames) (range_with_len 0 (last + 1 + more)) ++ option_to_list o)
      (no-key number frames last (last + 1 + more) is (omega arith))
      ∙ append-nil (filter_map (keyed number frames) (range_with_len 0 (last + 1 + more)))
      ∙ behind-last more

  -- the documents of the frames up to the last are all
  pub upto-last : (n : ℕ) → n ≡ last + 1 → n ≤ 256
      → filter_map (keyed number frames) (range_with_len 0 n) ≡ filter_map (keyed number frames) frame_numbers
  unfolding frame_numbers
  upto-last n end fits =
      let all : 256 ≡ last + 1 + (256 - n) = omega arith in
      ap (λ n. filter_map (keyed number frames) (range_with_len 0 n)) end
      ∙ sym (ap (λ n. filter_map (keyed number frames) (range_with_len 0 n)) all ∙ behind-last (256 - n))

-- a document with its key, where that is the key of its frame
pub keyed-as : (number : ℕ) (frames seen : List PlainFrame) (n : ℕ) (at : Label) (own : Option PlainKey) → seen ≡ frames
    → at ≡ record { tab = number; frame = n } → own ≡ key_of_frame n seen → option_map (λ key. (at, key)) own ≡ keyed number frames n
keyed-as number frames seen n at own same label key =
    ap (λ l. option_map (λ key. (l, key)) own) label
    ∙ ap (option_map {U = Label × PlainKey} (λ key. (record { tab = number; frame = n }, key))) (key ∙ ap (key_of_frame n) same)

-- the documents of one frame more
pub listed-next : (h : ℕ → Option (Label × PlainKey)) (before now after : List (Label × StorageKey)) (n : ℕ) (found : Option (Label × PlainKey))
    → found ≡ h n → map plain_keyed now ≡ map plain_keyed before ++ filter_map h (range_with_len 0 n)
    → map plain_keyed after ≡ map plain_keyed now ++ option_to_list found
    → map plain_keyed after ≡ map plain_keyed before ++ filter_map h (range_with_len 0 (n + 1))
listed-next h before now after n found own so_far more =
    more
    ∙ ap (λ o. map plain_keyed now ++ option_to_list o) own
    ∙ ap (λ l. l ++ option_to_list (h n)) so_far
    ∙ append_assoc (map plain_keyed before) (filter_map h (range_with_len 0 n)) (option_to_list (h n))
    ∙ ap (λ l. map plain_keyed before ++ l) (sym (filter_map-more h n))
