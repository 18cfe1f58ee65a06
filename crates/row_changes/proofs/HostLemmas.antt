-- Texts `scheme://host`: they are the text of a site, and that of an origin with the scheme's port.
use Rattle.std.proofs.Common.{◌≡◌, ℕ, ◌+◌, ◌<◌, Bool, true, false, List, ◌++◌, length, take, drop, refl, sym, ap, subst, ◌∙◌, append_assoc, arith}
use Rattle.std.specs.Prelude.{IsUtf8, nat_eq, bytes_eq, codes, cond, decimal}
use Rattle.std.specs.Bool.{one_answer}
use Rattle.std.specs.Cmp.Lexicographic.{pointwise}
use Rattle.std.proofs.lemmas.List.{take_at, drop_at, take-append-drop, length-append}
use Rattle.std.proofs.lemmas.Slice.Eq.{bytes_eq-Decides}
use Rattle.std.proofs.lemmas.Str.{IsUtf8-append, is_utf8-from_IsUtf8}
use Rattle.origin_site.specs.Origin.{PlainOrigin, is_default, origin_text, scheme_text}
use Rattle.origin_site.specs.Site.{site_text}
use Rattle.row_changes.specs.Spelled.{IsText}

-- a text begins with a front, and a host stands behind it
begins : (front host text rest : List ℕ) → pointwise nat_eq (take (length front) text) front ≡ true → rest ≡ drop (length front) text
    → pointwise nat_eq rest host ≡ bytes_eq (front ++ host) text
begins front host text rest same behind =
    let start : take (length front) text ≡ front = (bytes_eq-Decides (take (length front) text) front).0 same in
    let whole : text ≡ front ++ rest =
    sym (take-append-drop (length front) text) ∙ ap (λ (l : List ℕ). l ++ drop (length front) text) start
    ∙ ap (λ (l : List ℕ). front ++ l) (sym behind) in
    one_answer (pointwise nat_eq rest host) (bytes_eq (front ++ host) text) (bytes_eq-Decides rest host) (
      λ e. behind ∙ ap (drop (length front)) (sym ((bytes_eq-Decides (front ++ host) text).0 e)) ∙ drop_at front host (length front) refl,
      λ e. (bytes_eq-Decides (front ++ host) text).1 (ap (λ (l : List ℕ). front ++ l) (sym e) ∙ sym whole),
    )

true_false : ◌≡◌ {A = Bool} true false → ⊥
true_false e = cc

-- a text that begins otherwise is another
begins_not : (front host text : List ℕ) → pointwise nat_eq (take (length front) text) front ≡ false → false ≡ bytes_eq (front ++ host) text
begins_not front host text differs = by (bytes_eq (front ++ host) text) refl
  where
    by : (t : Bool) → bytes_eq (front ++ host) text ≡ t → false ≡ bytes_eq (front ++ host) text
    by true e =
        let whole : front ++ host ≡ text = (bytes_eq-Decides (front ++ host) text).0 e in
        let start : take (length front) text ≡ front = ap (take (length front)) (sym whole) ∙ take_at front host (length front) refl in
        absurd (true_false (sym ((bytes_eq-Decides (take (length front) text) front).1 start) ∙ differs))
    by false e = sym e

-- a front of a scheme makes a host the text of a site
site_front : (https : Bool) (front host text : List ℕ) → front ≡ scheme_text https ++ codes "://"
    → bytes_eq (front ++ host) text ≡ bytes_eq (site_text (record { https = https; host = host })) text
site_front https front host text is =
    ap (λ (l : List ℕ). bytes_eq (l ++ host) text) is
    ∙ ap (λ (l : List ℕ). bytes_eq l text) (append_assoc (scheme_text https) (codes "://") host)

pub host_text : (https : Bool) (front host text rest : List ℕ) → front ≡ scheme_text https ++ codes "://"
    → pointwise nat_eq (take (length front) text) front ≡ true → rest ≡ drop (length front) text
    → pointwise nat_eq rest host ≡ bytes_eq (site_text (record { https = https; host = host })) text
host_text https front host text rest is same behind = begins front host text rest same behind ∙ site_front https front host text is

pub no_host_text : (https : Bool) (front host text : List ℕ) → front ≡ scheme_text https ++ codes "://"
    → pointwise nat_eq (take (length front) text) front ≡ false
    → false ≡ bytes_eq (site_text (record { https = https; host = host })) text
no_host_text https front host text is differs = begins_not front host text differs ∙ site_front https front host text is

-- the text of an origin with the scheme's port is that of a site
pub default_text : (origin : PlainOrigin) → is_default origin.https origin.port ≡ true
    → origin_text origin ≡ site_text (record { https = origin.https; host = origin.host })
default_text origin is =
    ap (λ (b : Bool). scheme_text origin.https ++ (codes "://" ++ cond b origin.host (origin.host ++ (codes ":" ++ decimal origin.port)))) is

-- a front of a scheme and a host are the text of a site
site_is : (https : Bool) (front host : List ℕ) → front ≡ scheme_text https ++ codes "://"
    → front ++ host ≡ site_text (record { https = https; host = host })
site_is https front host is =
    ap (λ (l : List ℕ). l ++ host) is ∙ append_assoc (scheme_text https) (codes "://") host

-- such a text has a spelling, where its length has room
pub site_is_text : (https : Bool) (front host : List ℕ) → front ≡ scheme_text https ++ codes "://" → IsUtf8 front → IsUtf8 host
    → length front + length host < 4294967296 → IsText (site_text (record { https = https; host = host }))
site_is_text https front host is u v room =
    let joined : length (front ++ host) ≡ length front + length host = length-append front host in
    subst IsText (site_is https front host is)
    (is_utf8-from_IsUtf8 (front ++ host) (IsUtf8-append front host u v), omega (arith, joined, room))
