-- Texts of replies, joined.
use Rattle.std.proofs.Common.{◌≡◌, ℕ, ◌+◌, ◌<◌, List, [], ◌∷◌, ◌++◌, map, take, length, get_or, refl, sym, ap, ◌∙◌, append-nil, append_assoc}
use Rattle.std.proofs.lemmas.Grind.{flat_map-append}
use Rattle.std.proofs.lemmas.List.{map-append, take_more}
use Rattle.std.proofs.Math.Seq.{take-append_seam}
use Rattle.unwinding.specs.World.{SiteReply}
use Rattle.origin_site.specs.Site.{PlainSite}
use Rattle.reply_lines.specs.Plain.{reply_of}
use Rattle.reply_lines.specs.Reply.{PlainReply, reply_text}
use Rattle.reply_lines.specs.declared.reply.Reply.{Reply}
use Rattle.agent_model.specs.Isolation.{printed, text_of}
use Rattle.agent_model.specs.SiteEvent.{Answer}
use Rattle.store_runs.specs.Waiting.{replies_text}

pub text_append : (a b : List (SiteReply PlainSite Answer)) → text_of (a ++ b) ≡ text_of a ++ text_of b
unfolding text_of
text_append a b = flat_map-append (λ one. reply_text (printed one)) a b

pub text_one : (one : SiteReply PlainSite Answer) → text_of (one ∷ []) ≡ reply_text (printed one)
unfolding text_of
text_one one = append-nil (reply_text (printed one))

pub text_nothing : (told : List (SiteReply PlainSite Answer)) → told ≡ [] → text_of told ≡ []
unfolding text_of
text_nothing told none = ap text_of none

-- the text of replies is that of what is printed of them
pub text_printed : (told : List (SiteReply PlainSite Answer)) → text_of told ≡ replies_text (map printed told)
unfolding text_of replies_text
text_printed [] = refl
text_printed (one ∷ told) = ap (λ t. reply_text (printed one) ++ t) (text_printed told)

-- the texts of some replies, and of one more
pub texts_append : (a b : List PlainReply) → replies_text (a ++ b) ≡ replies_text a ++ replies_text b
unfolding replies_text
texts_append a b = flat_map-append reply_text a b

pub texts_one : (one : PlainReply) → replies_text (one ∷ []) ≡ reply_text one
unfolding replies_text
texts_one one = append-nil (reply_text one)

pub texts_none : replies_text [] ≡ []
unfolding replies_text
texts_none = refl

-- one reply more waits
pub waits_more : (held now : List ℕ) (replies : List Reply) (i : ℕ) (item : Reply) (waiting : List ℕ)
    → i < length replies → item ≡ get_or replies i item → waiting ≡ held ++ replies_text (map reply_of (take i replies))
    → now ≡ waiting ++ reply_text (reply_of item) → now ≡ held ++ replies_text (map reply_of (take (i + 1) replies))
waits_more held now replies i item waiting within is was text =
    let more : replies_text (map reply_of (take (i + 1) replies))
    ≡ replies_text (map reply_of (take i replies)) ++ reply_text (reply_of item) =
    ap (λ rs. replies_text (map reply_of rs)) (take_more replies i item within)
    ∙ ap replies_text (map-append reply_of (take i replies) (get_or replies i item ∷ [])) ∙ texts_append _ _
    ∙ ap (λ t. replies_text (map reply_of (take i replies)) ++ t)
    (texts_one (reply_of (get_or replies i item)) ∙ ap (λ (r : Reply). reply_text (reply_of r)) (sym is)) in
    text ∙ ap (λ w. w ++ reply_text (reply_of item)) was ∙ append_assoc held _ _ ∙ ap (λ t. held ++ t) (sym more)

-- no reply waits yet
pub waits_none : (held : List ℕ) → held ≡ held ++ replies_text []
waits_none held = sym (append-nil held) ∙ ap (λ t. held ++ t) (sym texts_none)

-- what waited before is there again, once the rest is cut off
pub cut_back : (held more now : List ℕ) (n : ℕ) → n ≡ length held → now ≡ take n (held ++ more) → now ≡ held
cut_back held more now n is cut = cut ∙ ap (λ m. take m (held ++ more)) is ∙ take-append_seam held more
