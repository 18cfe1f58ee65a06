-- The chain of a frame of a tab goes from the top to it, each frame the parent of the next.
use Rattle.std.proofs.Common.{◌≡◌, ℕ, Bool, true, false, cond, List, [], ◌∷◌, ◌++◌, reverse, refl, ap, ◌∙◌, sym, subst}
use Rattle.std.specs.Prelude.{◌||◌, ◌==◌, Some, unwrap_or}
use Rattle.std.specs.List.{Contains}
use Rattle.std.proofs.Math.Bool.{or-false}
use Rattle.std.proofs.lemmas.Bool.{eqb-true}
use Rattle.std.proofs.lemmas.List.{reverse-reverse}
use Rattle.std.proofs.lemmas.List.Elements.{All-append, All-contains_itself, All-weaker, Contains-append_left, Contains-append_right}
use Rattle.frame_tree.specs.Tree.{PlainFrame, IsChain, IsGrown, IsLine, IsTree, chain_back, chain_of, first_number, has_frame, last_number}
use Rattle.frame_tree.proofs.ShapeLemmas.{has-reversed, reverse-cons}

first_more : (xs : List PlainFrame) (e : PlainFrame) (n : ℕ) → first_number xs ≡ Some n → first_number (xs ++ e ∷ []) ≡ Some n
first_more [] e n is = absurd (cc is)
first_more (x ∷ xs) e n is = is

last_more : (xs : List PlainFrame) (e : PlainFrame) → last_number (xs ++ e ∷ []) ≡ Some e.frame
last_more [] e = refl
last_more (x ∷ []) e = refl
last_more (x ∷ y ∷ xs) e = last_more (y ∷ xs) e

own_number : (a b : ℕ) → Some a ≡ Some b → b ≡ a
own_number a b is = sym (ap (λ o. unwrap_or o 0) is)

line_more : (xs : List PlainFrame) (e : PlainFrame) → IsLine xs → last_number xs ≡ Some e.parent → IsLine (xs ++ e ∷ [])
line_more [] e line last = tt
line_more (x ∷ []) e line last = (own_number x.frame e.parent last, tt)
line_more (x ∷ y ∷ xs) e line last = (line.0, line_more (y ∷ xs) e line.1 last)

-- the frames of a chain with a frame more, or of another chain
chain_by : (b : Bool) (n : ℕ) (fs above other : List PlainFrame) (f : PlainFrame) → (b ≡ true → f.frame ≡ n) → (b ≡ true → IsChain f.parent fs above)
    → (b ≡ false → IsChain n fs other) → IsChain n (fs ++ f ∷ []) (cond b (above ++ f ∷ []) other)
chain_by true n fs above other f own chain rest =
    let is : IsChain f.parent fs above = chain refl in record {
      first = first_more above f 0 is.first;
      last = last_more above f ∙ ap Some (own refl);
      line = line_more above f is.line is.last;
      members = All-append (Contains (fs ++ f ∷ [])) above (f ∷ [])
          (All-weaker (Contains fs) (Contains (fs ++ f ∷ [])) (λ g. Contains-append_left fs (f ∷ []) g) above is.members)
          (All-weaker (Contains (f ∷ [])) (Contains (fs ++ f ∷ [])) (λ g. Contains-append_right fs (f ∷ []) g) (f ∷ []) (All-contains_itself (f ∷ [])));
    }
chain_by false n fs above other f own chain rest =
    let is : IsChain n fs other = rest refl in record {
      first = is.first;
      last = is.last;
      line = is.line;
      members = All-weaker (Contains fs) (Contains (fs ++ f ∷ [])) (λ g. Contains-append_left fs (f ∷ []) g) other is.members;
    }

chain_law : (n : ℕ) (fs : List PlainFrame) → IsGrown fs → has_frame n fs ≡ true → IsChain n (reverse fs) (chain_back n fs)
chain_law n [] grown there = absurd grown
chain_law n (f ∷ []) grown there =
    let own : (f.frame == n) ≡ true = sym (or-false (f.frame == n)) ∙ there in
    let one : cond (f.frame == n) (f ∷ []) [] ≡ f ∷ [] = ap (λ b. cond b (f ∷ []) []) own in
    subst (IsChain n (f ∷ [])) (sym one) (record {
      first = ap Some grown.0;
      last = ap Some (eqb-true f.frame n own);
      line = tt;
      members = All-contains_itself (f ∷ []);
    })
chain_law n (f ∷ next ∷ older) grown there =
    let rest : List PlainFrame = next ∷ older in
    subst (λ l. IsChain n l (chain_back n (f ∷ next ∷ older))) (sym (reverse-cons f rest))
    (chain_by (f.frame == n) n (reverse rest) (chain_back f.parent rest) (chain_back n rest) f (λ is. eqb-true f.frame n is)
    (λ is. chain_law f.parent (next ∷ older) grown.2 grown.1)
    (λ is. chain_law n (next ∷ older) grown.2 (sym (ap (λ b. b || has_frame n rest) is) ∙ there)))

-- the chain of a frame that is there
pub chain-law : (n : ℕ) (fs : List PlainFrame) → IsTree fs → has_frame n fs ≡ true → IsChain n fs (chain_of n fs)
chain-law n fs tree there =
    subst (λ l. IsChain n l (chain_of n fs)) (reverse-reverse fs) (chain_law n (reverse fs) tree (has-reversed n fs ∙ there))
