-- What one call makes of one channel, and a list of calls.
use Rattle.std.proofs.Common.{◌≡◌, Bool, not, sym, true, false, cond, List, [], ◌∷◌, ◌++◌, map, Option, Some, None, refl, ap, subst, ◌∙◌, ℕ, length, append_assoc, append-nil}
use Rattle.std.specs.Prelude.{is_some, ◌&&◌, filter, find, option_map, nat_lt}
use Rattle.std.specs.List.{list_all}
use Rattle.std.specs.Option.{option_or}
use Rattle.std.specs.Cmp.{IsTotalOrder, Equal-is, then_total, on_total, nat_cmp_total}
use Rattle.std.specs.declared.cmp.Ordering.{Ordering}
use Rattle.std.specs.declared.cmp.Ordering.TheVariants.{Less, Equal, Greater}
use Rattle.std.specs.Ordering.{is_eq, is_lt, nat_cmp, ordering_then, ordering_reverse}
use Rattle.broadcast_channel.proofs.MapLemmas.{eq-along}
use Rattle.broadcast_channel.specs.Channel.{PlainChannel, channel_at, changed_at, emptied, shut, fresh, channel_opened, with_channel, hears, told, told_by, posted_on, is_channel_of, id_order, most_messages, without_owner}
use Rattle.broadcast_channel.specs.Calls.{ChannelCall, Open, Post, Receive, Close, DropOwner, called, after_calls, sent_from, kept_by, given_by, ends, drops, kept, given_out, HearsAll, HearsNoMore}

-- ---- the first that passes

module _ {A : Type 0} (p : A → Bool) where
  append_step : (x : A) (b : Bool) (all first rest : Option A) → all ≡ option_or first rest → cond b (Some x) all ≡ option_or (cond b (Some x) first) rest
  append_step x true all first rest later = refl
  append_step x false all first rest later = later

  pub find_append : (xs ys : List A) → find p (xs ++ ys) ≡ option_or (find p xs) (find p ys)
  find_append [] ys = refl
  find_append (x ∷ xs) ys = append_step x (p x) (find p (xs ++ ys)) (find p xs) (find p ys) (find_append xs ys)

  keep_step : (x : A) (a b : Bool) (kept : List A) (rest : Option A) → p x ≡ a → (a ≡ true → b ≡ true) → find p kept ≡ rest
      → find p (cond b (x ∷ kept) kept) ≡ cond a (Some x) rest
  keep_step x true true kept rest is keeps later = rw is refl
  keep_step x true false kept rest is keeps later = absurd (cc (keeps refl))
  keep_step x false true kept rest is keeps later = rw is later
  keep_step x false false kept rest is keeps later = later

  pub find_keep : (q : A → Bool) → ((x : A) → p x ≡ true → q x ≡ true) → (xs : List A) → find p (filter q xs) ≡ find p xs
  find_keep q keeps [] = refl
  find_keep q keeps (x ∷ xs) = keep_step x (p x) (q x) (filter q xs) (find p xs) refl (keeps x) (find_keep q keeps xs)

  drop_step : (x : A) (a b : Bool) (kept : List A) → p x ≡ a → (a ≡ true → b ≡ false) → find p kept ≡ None → find p (cond b (x ∷ kept) kept) ≡ None
  drop_step x true true kept is drops later = absurd (cc (drops refl))
  drop_step x true false kept is drops later = later
  drop_step x false true kept is drops later = rw is later
  drop_step x false false kept is drops later = later

  pub find_drop : (q : A → Bool) → ((x : A) → p x ≡ true → q x ≡ false) → (xs : List A) → find p (filter q xs) ≡ None
  find_drop q drops [] = refl
  find_drop q drops (x ∷ xs) = drop_step x (p x) (q x) (filter q xs) refl (drops x) (find_drop q drops xs)

  mapped_step : (f : A → A) (x : A) (b : Bool) (all rest : Option A) → all ≡ option_map f rest → cond b (Some (f x)) all ≡ option_map f (cond b (Some x) rest)
  mapped_step f x true all rest later = refl
  mapped_step f x false all rest later = later

  pub find_map : (f : A → A) → ((x : A) → p (f x) ≡ p x) → (xs : List A) → find p (map f xs) ≡ option_map f (find p xs)
  find_map f same [] = refl
  find_map f same (x ∷ xs) = rw (same x) (mapped_step f x (p x) (find p (map f xs)) (find p xs) (find_map f same xs))

  found_passes : (x y : A) (b : Bool) (rest : Option A) → p x ≡ b → (rest ≡ Some y → p y ≡ true) → cond b (Some x) rest ≡ Some y → p y ≡ true
  found_passes x y true rest is later found = let same : x ≡ y = cc found in subst (λ z. p z ≡ true) same is
  found_passes x y false rest is later found = later found

  -- what is found passes
  pub find_passes : (y : A) (xs : List A) → find p xs ≡ Some y → p y ≡ true
  find_passes y [] found = absurd (cc found)
  find_passes y (x ∷ xs) found = found_passes x y (p x) (find p xs) refl (find_passes y xs) found

module _ {O K : Type 0} (by_owner : O → O → Ordering) (order : IsTotalOrder by_owner) (by_key : K → K → Ordering) where
  -- owners and ids in their order
  abbrev pair_order : O × ℕ → O × ℕ → Ordering
  pair_order a b = ordering_then (by_owner a.0 b.0) (nat_cmp a.1 b.1)

  pair_total : IsTotalOrder pair_order
  pair_total = then_total (on_total (λ p. p.0) order) (on_total (λ p. p.1) nat_cmp_total)

  then_first : (a b : Ordering) → is_eq (ordering_then a b) ≡ true → is_eq a ≡ true
  then_first Less b is = is
  then_first Equal b is = refl
  then_first Greater b is = is

  abbrev pair_of : PlainChannel O K → O × ℕ
  pair_of c = (c.owner, c.id)

  -- a channel of an owner and an id stands to all others as these do
  alike : (a b q : O × ℕ) → is_eq (pair_order a b) ≡ true → pair_order q b ≡ pair_order q a
  alike a b q tie =
      pair_total.antisymm q b ∙ ap ordering_reverse (sym (pair_total.congr a b q ((Equal-is (pair_order a b)).0 tie))) ∙ sym (pair_total.antisymm q a)

  module _ (owner : O) (id : ℕ) where
    abbrev own : PlainChannel O K → Bool
    own c = is_channel_of by_owner owner id c

    same_or : (b : Bool) (change : PlainChannel O K → PlainChannel O K) → ((c : PlainChannel O K) → own (change c) ≡ own c) → (c : PlainChannel O K)
        → own (cond b (change c) c) ≡ own c
    same_or true change same c = same c
    same_or false change same c = refl

    find_same : (p q : PlainChannel O K → Bool) → ((c : PlainChannel O K) → p c ≡ q c) → (cs : List (PlainChannel O K)) → find p cs ≡ find q cs
    find_same p q same [] = refl
    find_same p q same (c ∷ cs) = rw (same c, find_same p q same cs) refl

    -- an id that is not used is another one
    other_id : (o : O) (i : ℕ) (channels : List (PlainChannel O K)) (c : PlainChannel O K) (b : Bool) → is_eq (pair_order (owner, id) (o, i)) ≡ b
        → channel_at by_owner owner id channels ≡ Some c → is_some (channel_at by_owner o i channels) ≡ false → b ≡ false
    other_id o i channels c true tie found unused =
        absurd (cc (sym unused
        ∙ ap is_some (find_same (is_channel_of by_owner o i) own (λ d. ap is_eq (sym (pair_total.congr (owner, id) (o, i) (pair_of d) ((Equal-is (pair_order (owner, id) (o, i))).0 tie)))) channels ∙ found)))
    other_id o i channels c false tie found unused = refl

    placed_step : (o : O) (i : ℕ) (key : K) (name : List ℕ) (channels : List (PlainChannel O K)) (t : Bool) → is_lt (pair_order (o, i) (owner, id)) ≡ t
        → find own (filter (λ d. not (is_lt (id_order by_owner o i d))) channels ++ filter (λ d. is_lt (id_order by_owner o i d)) channels) ≡ find own channels
    placed_step o i key name channels true is =
        find_append own (filter (λ d. not (is_lt (id_order by_owner o i d))) channels) (filter (λ d. is_lt (id_order by_owner o i d)) channels)
        ∙ ap (λ r. option_or r (find own (filter (λ d. is_lt (id_order by_owner o i d)) channels)))
        (find_drop own (λ d. not (is_lt (id_order by_owner o i d))) (λ d tie. ap not (ap is_lt (alike (owner, id) (pair_of d) (o, i) tie) ∙ is)) channels)
        ∙ find_keep own (λ d. is_lt (id_order by_owner o i d)) (λ d tie. ap is_lt (alike (owner, id) (pair_of d) (o, i) tie) ∙ is) channels
    placed_step o i key name channels false is =
        find_append own (filter (λ d. not (is_lt (id_order by_owner o i d))) channels) (filter (λ d. is_lt (id_order by_owner o i d)) channels)
        ∙ ap (λ r. option_or r (find own (filter (λ d. is_lt (id_order by_owner o i d)) channels)))
        (find_keep own (λ d. not (is_lt (id_order by_owner o i d))) (λ d tie. ap not (ap is_lt (alike (owner, id) (pair_of d) (o, i) tie) ∙ is)) channels)
        ∙ ap (λ r. option_or (find own channels) r)
        (find_drop own (λ d. is_lt (id_order by_owner o i d)) (λ d tie. ap is_lt (alike (owner, id) (pair_of d) (o, i) tie) ∙ is) channels)
        ∙ or_none (find own channels)
      where
        or_none : (o : Option (PlainChannel O K)) → option_or o None ≡ o
        or_none None = refl
        or_none (Some c) = refl

    skip : (c : PlainChannel O K) (xs ys : List (PlainChannel O K)) → own c ≡ false → find own (xs ++ c ∷ ys) ≡ find own (xs ++ ys)
    skip c xs ys is = find_append own xs (c ∷ ys) ∙ ap (λ b. option_or (find own xs) (cond b (Some c) (find own ys))) is ∙ sym (find_append own xs ys)

    opened_step : (o : O) (i : ℕ) (key : K) (name : List ℕ) (channels : List (PlainChannel O K)) (c : PlainChannel O K) (b : Bool)
        → is_some (channel_at by_owner o i channels) ≡ b → channel_at by_owner owner id channels ≡ Some c
        → channel_at by_owner owner id (cond b channels (with_channel by_owner (fresh o i key name) channels)) ≡ Some c
    opened_step o i key name channels c true is found = found
    opened_step o i key name channels c false is found =
        skip (fresh o i key name) (filter (λ d. not (is_lt (id_order by_owner o i d))) channels) (filter (λ d. is_lt (id_order by_owner o i d)) channels)
        (other_id o i channels c (is_eq (pair_order (owner, id) (o, i))) refl found is)
        ∙ placed_step o i key name channels (is_lt (pair_order (o, i) (owner, id))) refl ∙ found

    -- another channel that opens
    pub at-opened : (o : O) (i : ℕ) (key : K) (name : List ℕ) (channels : List (PlainChannel O K)) (c : PlainChannel O K) → channel_at by_owner owner id channels ≡ Some c
        → channel_at by_owner owner id (channel_opened by_owner (fresh o i key name) channels) ≡ Some c
    at-opened o i key name channels c found = opened_step o i key name channels c (is_some (channel_at by_owner o i channels)) refl found

    -- another owner that goes
    pub at-dropped : (o : O) (channels : List (PlainChannel O K)) → is_eq (by_owner o owner) ≡ false
        → channel_at by_owner owner id (without_owner by_owner o channels) ≡ channel_at by_owner owner id channels
    at-dropped o channels apart =
        find_keep own (λ c. not (is_eq (by_owner o c.owner)))
        (λ c tie. ap not (sym (eq-along by_owner order o owner c.owner (then_first (by_owner owner c.owner) (nat_cmp id c.id) tie)) ∙ apart)) channels

    -- one channel that changes and keeps its owner and id
    pub at-changed : (change : PlainChannel O K → PlainChannel O K) → ((c : PlainChannel O K) → own (change c) ≡ own c) → (o : O) (i : ℕ) (channels : List (PlainChannel O K))
        → channel_at by_owner owner id (changed_at by_owner change o i channels)
        ≡ option_map (λ c. cond (is_channel_of by_owner o i c) (change c) c) (channel_at by_owner owner id channels)
    at-changed change same o i channels =
        find_map own (λ c. cond (is_channel_of by_owner o i c) (change c) c) (λ c. same_or (is_channel_of by_owner o i c) change same c) channels

    -- those that a text is told
    pub at-told : (from : PlainChannel O K) (text : List ℕ) (channels : List (PlainChannel O K))
        → channel_at by_owner owner id (told_by by_owner by_key from text channels)
        ≡ option_map (λ c. cond (hears by_owner by_key from c) (told text c) c) (channel_at by_owner owner id channels)
    at-told from text channels =
        find_map own (λ c. cond (hears by_owner by_key from c) (told text c) c) (λ c. same_or (hears by_owner by_key from c) (told text) (λ c. refl) c) channels

    -- what one call makes of the channel
    pub record Turns (c : PlainChannel O K) (call : ChannelCall O K) (channels : List (PlainChannel O K)) : Type 0 where
      pub now : PlainChannel O K
      pub found : channel_at by_owner owner id (called by_owner by_key call channels) ≡ Some now
      pub is_open : now.is_open ≡ c.is_open
      pub heard : given_by by_owner by_key c call ++ now.messages ≡ c.messages ++ kept_by by_owner by_key c call channels

    nothing : (b : Bool) (messages : List (List ℕ)) → messages ≡ messages ++ cond b [] []
    nothing true messages = sym (append-nil messages)
    nothing false messages = sym (append-nil messages)

    one_more : (b : Bool) (messages : List (List ℕ)) (text : List ℕ) → cond b (messages ++ text ∷ []) messages ≡ messages ++ cond b (text ∷ []) []
    one_more true messages text = refl
    one_more false messages text = sym (append-nil messages)

    abbrev room : PlainChannel O K → Bool
    room c = nat_lt (length c.messages) most_messages

    told_turn : (c from : PlainChannel O K) (text : List ℕ) (channels : List (PlainChannel O K)) (h : Bool) → channel_at by_owner owner id channels ≡ Some c
        → hears by_owner by_key from c ≡ h
        → (now : PlainChannel O K) × (channel_at by_owner owner id (told_by by_owner by_key from text channels) ≡ Some now) × (now.is_open ≡ c.is_open)
        × (now.messages ≡ c.messages ++ cond (room c) (cond h (text ∷ []) []) [])
    told_turn c from text channels true found is = (
      told text c,
      at-told from text channels ∙ ap (option_map (λ c. cond (hears by_owner by_key from c) (told text c) c)) found ∙ ap (λ b. Some (cond b (told text c) c)) is,
      refl,
      one_more (room c) c.messages text,
    )
    told_turn c from text channels false found is = (
      c,
      at-told from text channels ∙ ap (option_map (λ c. cond (hears by_owner by_key from c) (told text c) c)) found ∙ ap (λ b. Some (cond b (told text c) c)) is,
      refl,
      nothing (room c) c.messages,
    )

    -- what a post on a channel that is open, closed or not there makes of the channel
    abbrev PostTurn : PlainChannel O K → Option (PlainChannel O K) → List ℕ → List (PlainChannel O K) → Type 0
    PostTurn c from text channels =
        (now : PlainChannel O K) × (channel_at by_owner owner id (posted_on by_owner by_key from text channels) ≡ Some now) × (now.is_open ≡ c.is_open)
        × (now.messages ≡ c.messages ++ cond (room c) (sent_from by_owner by_key from text c) [])

    open_turn : (c from : PlainChannel O K) (text : List ℕ) (channels : List (PlainChannel O K)) (b : Bool) → from.is_open ≡ b → channel_at by_owner owner id channels ≡ Some c
        → PostTurn c (Some from) text channels
    open_turn c from text channels true is found = rw is (told_turn c from text channels (hears by_owner by_key from c) found refl)
    open_turn c from text channels false is found = rw is (c, found, refl, nothing (room c) c.messages)

    post_turn : (c : PlainChannel O K) (from : Option (PlainChannel O K)) (text : List ℕ) (channels : List (PlainChannel O K)) → channel_at by_owner owner id channels ≡ Some c
        → PostTurn c from text channels
    post_turn c None text channels found = (c, found, refl, nothing (room c) c.messages)
    post_turn c (Some from) text channels found = open_turn c from text channels from.is_open refl found

    receive_turn : (c : PlainChannel O K) (o : O) (i : ℕ) (channels : List (PlainChannel O K)) (b : Bool) → is_channel_of by_owner o i c ≡ b → channel_at by_owner owner id channels ≡ Some c
        → Turns c (Receive o i) channels
    receive_turn c o i channels true is found = record {
      now = emptied c;
      found = at-changed emptied (λ c. refl) o i channels ∙ ap (option_map (λ c. cond (is_channel_of by_owner o i c) (emptied c) c)) found ∙ ap (λ b. Some (cond b (emptied c) c)) is;
      is_open = refl;
      heard = rw is (append-nil c.messages ∙ nothing (room c) c.messages);
    }
    receive_turn c o i channels false is found = record {
      now = c;
      found = at-changed emptied (λ c. refl) o i channels ∙ ap (option_map (λ c. cond (is_channel_of by_owner o i c) (emptied c) c)) found ∙ ap (λ b. Some (cond b (emptied c) c)) is;
      is_open = refl;
      heard = rw is (nothing (room c) c.messages);
    }

    -- a call that does not end the channel
    pub turn : (c : PlainChannel O K) (call : ChannelCall O K) (channels : List (PlainChannel O K)) → channel_at by_owner owner id channels ≡ Some c
        → ends by_owner by_key owner id call ≡ false → Turns c call channels
    turn c (Open o i key name) channels found lasts = record {
      now = c;
      found = at-opened o i key name channels c found;
      is_open = refl;
      heard = nothing (room c) c.messages;
    }
    turn c (Post o i text) channels found lasts =
        let turned = post_turn c (channel_at by_owner o i channels) text channels found in
        record { now = turned.0; found = turned.1; is_open = turned.2; heard = turned.3 }
    turn c (Receive o i) channels found lasts = receive_turn c o i channels (is_channel_of by_owner o i c) refl found
    turn c (Close o i) channels found lasts = record {
      now = c;
      found =
          at-changed shut (λ c. refl) o i channels ∙ ap (option_map (λ c. cond (is_channel_of by_owner o i c) (shut c) c)) found
          ∙ ap (λ b. Some (cond b (shut c) c)) (ap is_eq (alike (owner, id) (pair_of c) (o, i) (find_passes own c channels found)) ∙ lasts);
      is_open = refl;
      heard = nothing (room c) c.messages;
    }
    turn c (DropOwner o) channels found lasts = record {
      now = c;
      found = at-dropped o channels lasts ∙ found;
      is_open = refl;
      heard = nothing (room c) c.messages;
    }

    both : (a b : Bool) → not a && b ≡ true → (a ≡ false) × (b ≡ true)
    both true b is = absurd (cc is)
    both false b is = (refl, is)

    -- what calls make of the channel
    pub record Lasts (c : PlainChannel O K) (calls : List (ChannelCall O K)) (channels : List (PlainChannel O K)) : Type 0 where
      pub now : PlainChannel O K
      pub found : channel_at by_owner owner id (after_calls by_owner by_key calls channels) ≡ Some now
      pub is_open : now.is_open ≡ c.is_open
      pub heard : given_out by_owner by_key owner id calls channels ++ now.messages ≡ c.messages ++ kept by_owner by_key owner id calls channels

    pub lasts : (c : PlainChannel O K) (calls : List (ChannelCall O K)) (channels : List (PlainChannel O K)) → channel_at by_owner owner id channels ≡ Some c
        → list_all (λ call. not (ends by_owner by_key owner id call)) calls ≡ true → Lasts c calls channels
    lasts c [] channels found none = record { now = c; found = found; is_open = refl; heard = sym (append-nil c.messages) }
    lasts c (call ∷ calls) channels found none =
        let all = both (ends by_owner by_key owner id call) (list_all (λ call. not (ends by_owner by_key owner id call)) calls) none in
        let first = turn c call channels found all.0 in
        let rest = lasts first.now calls (called by_owner by_key call channels) first.found all.1 in
        record {
          now = rest.now;
          found = rest.found;
          is_open = rest.is_open ∙ first.is_open;
          heard =
              rw found
              (append_assoc (given_by by_owner by_key c call) (given_out by_owner by_key owner id calls (called by_owner by_key call channels)) rest.now.messages
              ∙ ap (λ r. given_by by_owner by_key c call ++ r) rest.heard
              ∙ sym (append_assoc (given_by by_owner by_key c call) first.now.messages (kept by_owner by_key owner id calls (called by_owner by_key call channels)))
              ∙ ap (λ r. r ++ kept by_owner by_key owner id calls (called by_owner by_key call channels)) first.heard
              ∙ append_assoc c.messages (kept_by by_owner by_key c call channels) (kept by_owner by_key owner id calls (called by_owner by_key call channels)));
        }

    -- ---- a channel that is closed

    posted_closed : (c : PlainChannel O K) (from : Option (PlainChannel O K)) (text : List ℕ) (channels : List (PlainChannel O K))
        → channel_at by_owner owner id channels ≡ Some (shut c) → channel_at by_owner owner id (posted_on by_owner by_key from text channels) ≡ Some (shut c)
    posted_closed c None text channels found = found
    posted_closed c (Some from) text channels found = step from.is_open
      where
        step : (b : Bool) → channel_at by_owner owner id (cond b (told_by by_owner by_key from text channels) channels) ≡ Some (shut c)
        step true = at-told from text channels ∙ ap (option_map (λ c. cond (hears by_owner by_key from c) (told text c) c)) found
        step false = found

    either : (b : Bool) (c : PlainChannel O K) → cond b c c ≡ c
    either true c = refl
    either false c = refl

    -- a call that does not drop a closed channel leaves it
    pub stays : (c : PlainChannel O K) (call : ChannelCall O K) (channels : List (PlainChannel O K)) → channel_at by_owner owner id channels ≡ Some (shut c)
        → drops by_owner by_key owner call ≡ false → channel_at by_owner owner id (called by_owner by_key call channels) ≡ Some (shut c)
    stays c (Open o i key name) channels found none = at-opened o i key name channels (shut c) found
    stays c (Post o i text) channels found none = posted_closed c (channel_at by_owner o i channels) text channels found
    stays c (Receive o i) channels found none =
        at-changed emptied (λ c. refl) o i channels ∙ ap (option_map (λ c. cond (is_channel_of by_owner o i c) (emptied c) c)) found ∙ ap Some (either (is_channel_of by_owner o i (shut c)) (shut c))
    stays c (Close o i) channels found none =
        at-changed shut (λ c. refl) o i channels ∙ ap (option_map (λ c. cond (is_channel_of by_owner o i c) (shut c) c)) found ∙ ap Some (either (is_channel_of by_owner o i (shut c)) (shut c))
    stays c (DropOwner o) channels found none = at-dropped o channels none ∙ found

    pub all-stay : (c : PlainChannel O K) (calls : List (ChannelCall O K)) (channels : List (PlainChannel O K)) → channel_at by_owner owner id channels ≡ Some (shut c)
        → list_all (λ call. not (drops by_owner by_key owner call)) calls ≡ true → channel_at by_owner owner id (after_calls by_owner by_key calls channels) ≡ Some (shut c)
    all-stay c [] channels found none = found
    all-stay c (call ∷ calls) channels found none =
        let all = both (drops by_owner by_key owner call) (list_all (λ call. not (drops by_owner by_key owner call)) calls) none in
        all-stay c calls (called by_owner by_key call channels) (stays c call channels found all.0) all.1

  -- ---- the laws

  self_step : (o : Ordering) → o ≡ ordering_reverse o → is_eq o ≡ true
  self_step Less is = absurd (cc is)
  self_step Equal is = refl
  self_step Greater is = absurd (cc is)

  self : (owner : O) (id : ℕ) → is_eq (pair_order (owner, id) (owner, id)) ≡ true
  self owner id = self_step (pair_order (owner, id) (owner, id)) (pair_total.antisymm (owner, id) (owner, id))

  -- a channel that was just opened is found
  found_fresh : (owner : O) (id : ℕ) (key : K) (name : List ℕ) (before : List (PlainChannel O K)) → channel_at by_owner owner id before ≡ None
      → channel_at by_owner owner id (channel_opened by_owner (fresh owner id key name) before) ≡ Some (fresh owner id key name)
  found_fresh owner id key name before unused =
      rw unused
      (find_append (is_channel_of by_owner owner id) (filter (λ d. not (is_lt (id_order by_owner owner id d))) before) (fresh owner id key name ∷ filter (λ d. is_lt (id_order by_owner owner id d)) before)
      ∙ ap (λ r. option_or r (find (is_channel_of by_owner owner id) (fresh owner id key name ∷ filter (λ d. is_lt (id_order by_owner owner id d)) before))) (none_in before unused)
      ∙ ap (λ b. cond b (Some (fresh owner id key name)) (find (is_channel_of by_owner owner id) (filter (λ d. is_lt (id_order by_owner owner id d)) before))) (self owner id))
    where
      none_step : (c : PlainChannel O K) (b d : Bool) (kept : List (PlainChannel O K)) (rest : Option (PlainChannel O K)) → is_channel_of by_owner owner id c ≡ b
          → (rest ≡ None → find (is_channel_of by_owner owner id) kept ≡ None) → cond b (Some c) rest ≡ None → find (is_channel_of by_owner owner id) (cond d (c ∷ kept) kept) ≡ None
      none_step c true d kept rest is later missing = absurd (cc missing)
      none_step c false true kept rest is later missing = rw is (later missing)
      none_step c false false kept rest is later missing = later missing

      none_in : (cs : List (PlainChannel O K)) → channel_at by_owner owner id cs ≡ None
          → find (is_channel_of by_owner owner id) (filter (λ d. not (is_lt (id_order by_owner owner id d))) cs) ≡ None
      none_in [] missing = refl
      none_in (c ∷ cs) missing =
          none_step c (is_channel_of by_owner owner id c) (not (is_lt (id_order by_owner owner id c))) (filter (λ d. not (is_lt (id_order by_owner owner id d))) cs)
          (channel_at by_owner owner id cs) refl (none_in cs) missing

  pub hears-all : HearsAll by_owner by_key
  hears-all owner id key name before calls unused none =
      let last = lasts owner id (fresh owner id key name) calls (channel_opened by_owner (fresh owner id key name) before) (found_fresh owner id key name before unused) none in
      record { channel = last.now; found = last.found; is_open = last.is_open; heard = last.heard }

  pub hears-no-more : HearsNoMore by_owner by_key
  hears-no-more owner id before calls none c found =
      all-stay owner id c calls (changed_at by_owner shut owner id before)
      (at-changed owner id shut (λ c. refl) owner id before ∙ ap (option_map (λ c. cond (is_channel_of by_owner owner id c) (shut c) c)) found
      ∙ ap (λ b. Some (cond b (shut c) c)) (find_passes (is_channel_of by_owner owner id) c before found))
      none
