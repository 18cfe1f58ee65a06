-- Bytes that are put one behind the other.
use Rattle.std.proofs.Common.{◌≡◌, ◌<◌, ℕ, List, [], ◌∷◌, ◌++◌, length, Result, Ok, Err, refl, ap, sym, ◌∙◌, append_assoc, append-nil, arith, is_ok, if◌then◌else◌}
use Rattle.std.specs.Prelude.{OnOk, IsErr}
use Rattle.std.specs.List.{All}
use Rattle.std.proofs.lemmas.List.Elements.{All-push}
use Rattle.agent_base.specs.declared.refusals.NoMemory.{NoMemory}
use Rattle.row_changes.specs.Appended.{Appends, HasTexts, IsFront}
use Rattle.row_changes.specs.Body.{changes_bytes, durable_bytes, rows_bytes}
use Rattle.row_changes.specs.Change.{PlainChange}
use Rattle.row_changes.specs.Grown.{Grown}
use Rattle.row_changes.specs.Spelling.{change_bytes}
use Rattle.std.proofs.lemmas.List.Concat.{flat_map-append}

-- bytes, a byte and a number
pub grant_joined : (old sites first second new number : List ℕ) (a b : ℕ) → first ≡ old ++ sites → second ≡ first ++ a ∷ [] → a ≡ b → new ≡ second ++ number
    → new ≡ old ++ (sites ++ b ∷ number)
grant_joined old sites first second new number a b h k same l =
    l ∙ ap (λ (x : List ℕ). x ++ number) (k ∙ ap (λ (x : List ℕ). x ++ a ∷ []) h) ∙ append_assoc (old ++ sites) (a ∷ []) number
    ∙ append_assoc old sites (a ∷ number) ∙ ap (λ (n : ℕ). old ++ (sites ++ n ∷ number)) same

-- two bytes and two numbers
pub marks_joined : (old first second third new number last end : List ℕ) (a b c d : ℕ) → first ≡ old ++ a ∷ [] → a ≡ b → second ≡ first ++ c ∷ [] → c ≡ d
    → third ≡ second ++ number → new ≡ third ++ last → last ≡ end → new ≡ old ++ (b ∷ d ∷ number ++ end)
marks_joined old first second third new number last end a b c d h ab k cd l m same =
    let two : second ≡ old ++ a ∷ c ∷ [] = k ∙ ap (λ (x : List ℕ). x ++ c ∷ []) h ∙ append_assoc old (a ∷ []) (c ∷ []) in
    let three : third ≡ old ++ (a ∷ c ∷ number) = l ∙ ap (λ (x : List ℕ). x ++ number) two ∙ append_assoc old (a ∷ c ∷ []) number in
    m ∙ ap (λ (x : List ℕ). x ++ last) three ∙ append_assoc old (a ∷ c ∷ number) last
    ∙ ap (λ (x : List ℕ). old ++ (a ∷ c ∷ number ++ x)) same ∙ ap (λ (n : ℕ). old ++ (n ∷ c ∷ number ++ end)) ab
    ∙ ap (λ (n : ℕ). old ++ (b ∷ n ∷ number ++ end)) cd

-- a cookie behind its code, its cell and its place
pub placed_joined : (old first new cell cookie : List ℕ) (code place : ℕ) → first ≡ old ++ code ∷ (cell ++ place ∷ []) → new ≡ first ++ cookie
    → new ≡ old ++ code ∷ (cell ++ place ∷ cookie)
placed_joined old first new cell cookie code place h l =
    l ∙ ap (λ (x : List ℕ). x ++ cookie) h ∙ append_assoc old (code ∷ (cell ++ place ∷ [])) cookie
    ∙ ap (λ (x : List ℕ). old ++ code ∷ x) (append_assoc cell (place ∷ []) cookie)

-- what stands there is behind itself, with nothing between
pub grown_same : {a : List ℕ} → Grown a a
grown_same {a} = record { rest = []; is = sym (append-nil a) }

-- what is written behind what was written
pub grown_then : {a b c : List ℕ} → Grown a b → Grown b c → Grown a c
grown_then {a} {b} {c} g h = record { rest = g.rest ++ h.rest; is = h.is ∙ ap (λ (x : List ℕ). x ++ h.rest) g.is ∙ append_assoc a g.rest h.rest }

-- what a call that writes all or nothing leaves
pub grown_by : {T E : Type 0} {a b : List ℕ} (ys : List ℕ) (r : Result T E) → b ≡ (if is_ok r then a ++ ys else a) → Grown a b
grown_by {T} {E} {a} {b} ys (Ok x) e = record { rest = ys; is = e }
grown_by {T} {E} {a} {b} ys (Err x) e = record { rest = []; is = e ∙ sym (append-nil a) }

-- as the front of what stands there
pub front_of : {a b : List ℕ} → Grown a b → IsFront a b
front_of g = (g.rest, g.is)

-- the bytes of row changes, of which there is one at least
pub durable_some : (changes : List PlainChange) → 0 < length changes → durable_bytes changes ≡ changes_bytes changes
durable_some [] h = absurd (omega arith)
durable_some (change ∷ changes) h = refl

-- a count, and row changes behind it
pub appended_by : {T : Type 0} (changes : List PlainChange) (before mid after count bytes : List ℕ) (r : Result T NoMemory) → mid ≡ before ++ count → OnOk r (after ≡ mid ++ bytes)
    → OnOk r (All HasTexts changes) → Grown mid after → count ++ bytes ≡ durable_bytes changes → length changes < 4294967296 → Appends changes before after r
appended_by changes before mid after count bytes (Ok x) first bytes_are texts grown same room =
    (bytes_are ∙ ap (λ (x : List ℕ). x ++ bytes) first ∙ append_assoc before count bytes ∙ ap (λ (x : List ℕ). before ++ x) same, texts, room)
appended_by changes before mid after count bytes (Err x) first bytes_are texts grown same room = front_of (grown_then (record { rest = count; is = first }) grown)

-- memory is wanted, and what was there is the front
pub front_kept : {T : Type 0} (changes : List PlainChange) (before after : List ℕ) (r : Result T NoMemory) → IsErr r → Grown before after → Appends changes before after r
front_kept changes before after (Ok x) wanting grown = cc
front_kept changes before after (Err x) wanting grown = front_of grown

-- a text behind a byte, a text and a byte
pub partition_joined : (old first second third new site domain : List ℕ) (bit byte : ℕ) → first ≡ old ++ 1 ∷ [] → second ≡ first ++ site → third ≡ second ++ bit ∷ [] → bit ≡ byte
    → new ≡ third ++ domain → new ≡ old ++ (1 ∷ site ++ byte ∷ domain)
partition_joined old first second third new site domain bit byte h k l same m =
    let two : second ≡ old ++ (1 ∷ site) = k ∙ ap (λ (x : List ℕ). x ++ site) h ∙ append_assoc old (1 ∷ []) site in
    let three : third ≡ old ++ (1 ∷ site ++ bit ∷ []) = l ∙ ap (λ (x : List ℕ). x ++ bit ∷ []) two ∙ append_assoc old (1 ∷ site) (bit ∷ []) in
    m ∙ ap (λ (x : List ℕ). x ++ domain) three ∙ append_assoc old (1 ∷ site ++ bit ∷ []) domain
    ∙ ap (λ (x : List ℕ). old ++ 1 ∷ x) (append_assoc site (bit ∷ []) domain) ∙ ap (λ (n : ℕ). old ++ (1 ∷ site ++ n ∷ domain)) same

-- of one row change it is said
pub one_has_texts : (change : PlainChange) → HasTexts change → All HasTexts (change ∷ [])
one_has_texts change texts = All-push HasTexts [] change (λ k d h. absurd (omega arith)) texts

-- the bytes of one row change more
pub rows_joined : (before : List PlainChange) (change : PlainChange) (old mid new : List ℕ) → mid ≡ old ++ rows_bytes before → new ≡ mid ++ change_bytes change
    → new ≡ old ++ rows_bytes (before ++ change ∷ [])
rows_joined before change old mid new first second =
    let more : rows_bytes (before ++ change ∷ []) ≡ rows_bytes before ++ change_bytes change =
    flat_map-append change_bytes before (change ∷ []) ∙ ap (λ (x : List ℕ). rows_bytes before ++ x) (append-nil (change_bytes change)) in
    second ∙ ap (λ (x : List ℕ). x ++ change_bytes change) first ∙ append_assoc old (rows_bytes before) (change_bytes change) ∙ ap (λ (x : List ℕ). old ++ x) (sym more)
