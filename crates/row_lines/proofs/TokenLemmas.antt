-- Tokens that are written one after another, and the line that they are.
use Rattle.std.proofs.Common.{◌≡◌, List, [], ◌++◌, ap, subst, ◌∙◌, append_assoc, OnOk, Ok, Err, Result}
use Rattle.json.specs.Print.{print}
use Rattle.json.specs.Token.{Token}
use Rattle.json.specs.Written.{Written}
use Rattle.serde_json.specs.Data.{Data}
use Rattle.serde_json.specs.Written.{compact_text}
use Rattle.serde_json.proofs.Texts.{print-outline}
use Rattle.row_lines.specs.Tokens.{Puts, tokens_of}

tokens_joined : {T E : Type 0} (result : Result T E) (old mid new ts us : List Token) → mid ≡ old ++ ts → OnOk result (new ≡ mid ++ us) → OnOk result (new ≡ old ++ (ts ++ us))
tokens_joined (Ok x) old mid new ts us one two = two ∙ ap (λ x. x ++ us) one ∙ append_assoc old ts us
tokens_joined (Err e) old mid new ts us one two = tt

-- tokens were written, and then more of them
pub joined : {T E S F : Type 0} {x : S} {result : Result T E} {a b c : Written} {ts us : List Token} → Puts {T = S} {E = F} (Ok x) a b ts → Puts result b c us → Puts result a c (ts ++ us)
joined {result} {a} {b} {c} {ts} {us} one two = record {
  tokens = tokens_joined result a.tokens b.tokens c.tokens ts us one.tokens two.tokens;
  before = two.before ∙ one.before;
}

-- the tokens of a value, behind none, are its text
pub value_text : {T E : Type 0} (x : T) (result : Result T E) (d : Data) (a b : Written) → result ≡ Ok x → a.tokens ≡ [] → Puts result a b (tokens_of d) → b.before ++ print b.tokens ≡ a.before ++ compact_text d
value_text x result d a b was none puts =
    let tokens : b.tokens ≡ a.tokens ++ tokens_of d = subst (λ r. OnOk r (b.tokens ≡ a.tokens ++ tokens_of d)) was puts.tokens in
    ap (λ t. b.before ++ print t) (tokens ∙ ap (λ t. t ++ tokens_of d) none)
    ∙ ap (λ t. b.before ++ t) (print-outline d) ∙ ap (λ t. t ++ compact_text d) puts.before
