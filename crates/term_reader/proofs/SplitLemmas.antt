-- Splits of items and of arguments over tokens.
use Rattle.std.proofs.Common.{◌≡◌, ◌⊎◌, ◌↔◌, ℕ, zero, suc, ◌+◌, ◌<◌, ◌≤◌, List, [], ◌∷◌, ◌++◌, length, map, drop, inl, inr, refl, ap, ◌∙◌, sym, subst, get_or, arith, Some, slice_get, if◌then◌else◌, Bool, true, false, IsTrue, Result, Ok, Err, IfOk}
use Rattle.std.proofs.lemmas.Option.{slice_get-map, slice_get-get_or}
use Rattle.std.specs.Option.{option_map}
use Rattle.proof_lexer.specs.declared.token.Token as of_tokens
use Rattle.proof_lexer.specs.declared.token.Kind.TheVariants as kinds
use Rattle.std.specs.List.{Contains, AllByRecursion}
use Rattle.std.proofs.lemmas.List.Elements.{Contains-append_left, Contains-append_right, Contains-get_or}
use Rattle.std.proofs.lemmas.Bool.{cases_lt}
use Rattle.std.proofs.lemmas.List.{get_or-map, length-map, drop_more}
use Rattle.binding_terms.specs.Signature.{Signature}
use Rattle.binding_terms.specs.declared.grammar.Item.{Item}
use Rattle.binding_terms.specs.declared.grammar.Item.TheVariants.{Word, Binder}
use Rattle.binding_terms.specs.declared.grammar.CatId.{CatId}
use Rattle.rule_schemes.specs.Reading.{Token, word, Variable, IsTerminal, IsVariableWord}
use Rattle.rule_schemes.specs.Said.{ComesBefore}
use Rattle.term_reader.specs.Splitting.{SlotRange, Divided, after, bound_variable, IsHead, IsSplit, AreSplits, AreInOrder, lengths}
use Rattle.binding_terms.proofs.Lists.{all_also, all_append, all_contained, all_from, all_mapped, cons_cases, contains_map}

-- a slot from one place up to another
abbrev pub range_of : CatId → List ℕ → ℕ → ℕ → SlotRange
range_of c binds n k = record { cat = c; binds = binds; from = n; to = k }

-- two lists one after the other, where all of the first stands before all of the second
in_order_append : (xs ys : List Divided) → AreInOrder xs → AreInOrder ys
    → ((x y : Divided) → Contains xs x → Contains ys y → ComesBefore (lengths x.1) (lengths y.1)) → AreInOrder (xs ++ ys)
in_order_append [] ys h k apart = k
in_order_append (x ∷ xs) ys h k apart = (
  all_append (λ y. ComesBefore (lengths x.1) (lengths y.1)) xs ys h.0 (all_from (λ y. ComesBefore (lengths x.1) (lengths y.1)) ys (λ y c. apart x y (0, omega arith, refl) c)),
  in_order_append xs ys h.1 k (λ z y c d. apart z y (Contains-append_right (x ∷ []) xs z c) d),
)

pub in_order_apart : (xs ys : List Divided) (x y : Divided) → AreInOrder (xs ++ ys) → Contains xs x → Contains ys y → ComesBefore (lengths x.1) (lengths y.1)
in_order_apart [] ys x y h c d = absurd (omega (arith, c.1))
in_order_apart (z ∷ xs) ys x y h c d = go (in_order_apart xs ys x y h.1) (cons_cases z xs x c)
  where
    go : (Contains xs x → Contains ys y → ComesBefore (lengths x.1) (lengths y.1)) → (z ≡ x) ⊎ Contains xs x → ComesBefore (lengths x.1) (lengths y.1)
    go rest (inl e) =
        subst (λ (w : Divided). ComesBefore (lengths w.1) (lengths y.1)) e (all_contained (λ (v : Divided). ComesBefore (lengths z.1) (lengths v.1)) (xs ++ ys) y h.0 (Contains-append_right xs ys y d))
    go rest (inr b) = rest b d

in_order_mapped : (f : Divided → Divided) (all : List Divided) → ((x y : Divided) → ComesBefore (lengths x.1) (lengths y.1) → ComesBefore (lengths (f x).1) (lengths (f y).1))
    → AreInOrder all → AreInOrder (map f all)
in_order_mapped f [] keeps h = tt
in_order_mapped f (x ∷ all) keeps h = (
  all_mapped f (λ (y : Divided). ComesBefore (lengths x.1) (lengths y.1)) (λ (y : Divided). ComesBefore (lengths (f x).1) (lengths y.1)) all (λ y. keeps x y) h.0,
  in_order_mapped f all keeps h.1,
)

module _ (Stand : SlotRange → Type 0) where
  pub no_splits : (Is : List Variable → List SlotRange → Type 0) → ((vs : List Variable) (ps : List SlotRange) → Is vs ps → ⊥) → AreSplits Stand Is []
  no_splits Is h = record { each = tt; kept = λ vs ps s all. absurd (h vs ps s); in_order = tt }

  -- of a property that says the same
  pub same_splits : (P Q : List Variable → List SlotRange → Type 0) (all : List Divided) → ((vs : List Variable) (ps : List SlotRange) → P vs ps ↔ Q vs ps)
      → AreSplits Stand P all → AreSplits Stand Q all
  same_splits P Q all h s = record {
    each = all_also (λ (d : Divided). P d.0 d.1) (λ (d : Divided). Q d.0 d.1) all (λ d. (h d.0 d.1).0) s.each;
    kept = λ vs ps q stand. s.kept vs ps ((h vs ps).1 q) stand;
    in_order = s.in_order;
  }

  -- the one split of nothing
  pub one_split : (Is : List Variable → List SlotRange → Type 0) (b : Bool) (all : List Divided) → (IsTrue b → Is [] [])
      → ((vs : List Variable) (ps : List SlotRange) → Is vs ps → IsTrue b × (vs ≡ []) × (ps ≡ [])) → all ≡ (if b then ([], []) ∷ [] else []) → AreSplits Stand Is all
  one_split Is true all there back e = subst (AreSplits Stand Is) (sym e) (record {
    each = (there refl, tt);
    kept = λ vs ps s stand. (let b = back vs ps s in (0, omega arith, λ i. (sym b.1 i, sym b.2 i)));
    in_order = (tt, tt);
  })
  one_split Is false all there back e = subst (AreSplits Stand Is) (sym e) (no_splits Is (λ vs ps s. (let never : false ≡ true = (back vs ps s).0 in cc)))

  module _ (c : CatId) (binds : List ℕ) (n low : ℕ) (Rest : ℕ → List Variable → List SlotRange → Type 0) where
    higher : (k : ℕ) (vs : List Variable) (ps : List SlotRange) → IsHead c binds n low k Rest vs ps → IsHead c binds n low (k + 1) Rest vs ps
    higher k vs [] h = h
    higher k vs (p ∷ ps) h = (h.0, h.1, omega (arith, h.2), h.3)

    -- a slot that ends at that place
    at_end : (k : ℕ) (p : SlotRange) (vs : List Variable) (ps : List SlotRange) → IsHead c binds n low (k + 1) Rest vs (p ∷ ps) → k ≤ p.to
        → (p ≡ range_of c binds n k) × Rest k vs ps
    at_end k p vs ps h le =
        let same : p.to ≡ k = omega (arith, h.2) in
        (h.0 ∙ ap (range_of c binds n) same, subst (λ m. Rest m vs ps) same h.3)

    -- no slot that ends there stands
    pub one_end_cut : (k : ℕ) (all : List Divided) → (Stand (range_of c binds n k) → ⊥) → AreSplits Stand (IsHead c binds n low k Rest) all
        → AreSplits Stand (IsHead c binds n low (k + 1) Rest) all
    one_end_cut k all cut s = record {
      each = all_also (λ (d : Divided). IsHead c binds n low k Rest d.0 d.1) (λ (d : Divided). IsHead c binds n low (k + 1) Rest d.0 d.1) all (λ d. higher k d.0 d.1) s.each;
      kept = kept;
      in_order = s.in_order;
    }
      where
        kept : (vs : List Variable) (ps : List SlotRange) → IsHead c binds n low (k + 1) Rest vs ps → AllByRecursion Stand ps → Contains all (vs, ps)
        kept vs [] h stand = absurd h
        kept vs (p ∷ ps) h stand = go (cases_lt p.to k)
          where
            go : (p.to < k) ⊎ (k ≤ p.to) → Contains all (vs, p ∷ ps)
            go (inl lt) = s.kept vs (p ∷ ps) (h.0, h.1, lt, h.3) stand
            go (inr le) = absurd (cut (subst Stand (at_end k p vs ps h le).0 stand.0))

    -- the splits whose first slot ends at one place more
    pub one_end_more : (k : ℕ) (all more : List Divided) → low ≤ k → AreSplits Stand (IsHead c binds n low k Rest) all → AreSplits Stand (Rest k) more
        → n ≤ low → AreSplits Stand (IsHead c binds n low (k + 1) Rest) (all ++ map (after ([], range_of c binds n k ∷ [])) more)
    one_end_more k all more some s rest start = record {
      each = all_append (λ (d : Divided). IsHead c binds n low (k + 1) Rest d.0 d.1) all (map f more)
          (all_also (λ (d : Divided). IsHead c binds n low k Rest d.0 d.1) (λ (d : Divided). IsHead c binds n low (k + 1) Rest d.0 d.1) all (λ d. higher k d.0 d.1) s.each)
          (all_mapped f (λ (d : Divided). Rest k d.0 d.1) (λ (d : Divided). IsHead c binds n low (k + 1) Rest d.0 d.1) more (λ d r. (refl, some, omega arith, r)) rest.each);
      kept = kept;
      in_order = in_order_append all (map f more) s.in_order
          (in_order_mapped f more (λ x y b. inr (refl, b)) rest.in_order)
          (λ x y a b. (let g = (contains_map f more y).0 b in
          subst (λ (z : Divided). ComesBefore (lengths x.1) (lengths z.1)) (sym g.1)
          (shorter x.0 x.1 (g.0).1 (all_contained (λ (d : Divided). IsHead c binds n low k Rest d.0 d.1) all x s.each a))));
    }
      where
        f : Divided → Divided
        f = after ([], range_of c binds n k ∷ [])

        shorter : (vs : List Variable) (ps qs : List SlotRange) → IsHead c binds n low k Rest vs ps → ComesBefore (lengths ps) (lengths (range_of c binds n k ∷ qs))
        shorter vs [] qs h = absurd h
        shorter vs (p ∷ ps) qs h =
            let from : p.from ≡ n = ap (λ (q : SlotRange). q.from) h.0 in
            inl (omega (arith, h.1, h.2))

        kept : (vs : List Variable) (ps : List SlotRange) → IsHead c binds n low (k + 1) Rest vs ps → AllByRecursion Stand ps → Contains (all ++ map f more) (vs, ps)
        kept vs [] h stand = absurd h
        kept vs (p ∷ ps) h stand = go (cases_lt p.to k)
          where
            go : (p.to < k) ⊎ (k ≤ p.to) → Contains (all ++ map f more) (vs, p ∷ ps)
            go (inl lt) = Contains-append_left all (map f more) (vs, p ∷ ps) (s.kept vs (p ∷ ps) (h.0, h.1, lt, h.3) stand)
            go (inr le) =
                let g = at_end k p vs ps h le in
                Contains-append_right all (map f more) (vs, p ∷ ps)
                ((contains_map f more (vs, p ∷ ps)).1 ((vs, ps), ap (λ q. (vs, q ∷ ps)) g.0, rest.kept vs ps g.1 stand.1))

  module _ (sig : Signature) (ts : List Token) (to : ℕ) where
    -- a terminal that stands at its place
    pub word_splits : (text : List ℕ) (quoted : Bool) (items : List Item) (n : ℕ) (t : Token) (all : List Divided) → n < to → slice_get ts n ≡ Some t
        → IsTerminal text t → AreSplits Stand (IsSplit sig ts to items (n + 1)) all → AreSplits Stand (IsSplit sig ts to (Word text quoted ∷ items) n) all
    word_splits text quoted items n t all lt e h =
        same_splits (IsSplit sig ts to items (n + 1)) (IsSplit sig ts to (Word text quoted ∷ items) n) all (λ vs ps. (λ s. (lt, t, e, h, s), λ s. s.4))

    -- another token where a terminal is to stand
    pub another_word : (text : List ℕ) (quoted : Bool) (items : List Item) (n : ℕ) (t : Token) → slice_get ts n ≡ Some t → (IsTerminal text t → ⊥)
        → AreSplits Stand (IsSplit sig ts to (Word text quoted ∷ items) n) []
    another_word text quoted items n t e h = no_splits (IsSplit sig ts to (Word text quoted ∷ items) n)
        (λ vs ps s. (let two : Some (s.1) ≡ Some t = sym s.2 ∙ e in let same : s.1 ≡ t = cc in h (subst (IsTerminal text) same s.3)))

    -- a binder that stands at its place
    pub binder_splits : (c : CatId) (items : List Item) (n : ℕ) (w : List ℕ) (more : List Divided) → n < to → slice_get ts n ≡ Some (word w) → IsVariableWord sig c.0 w
        → AreSplits Stand (IsSplit sig ts to items (n + 1)) more
        → AreSplits Stand (IsSplit sig ts to (Binder c ∷ items) n) (map (after (bound_variable w c.0 ∷ [], [])) more)
    binder_splits c items n w more lt e h rest = record {
      each = all_mapped f (λ (d : Divided). IsSplit sig ts to items (n + 1) d.0 d.1) (λ (d : Divided). IsSplit sig ts to (Binder c ∷ items) n d.0 d.1) more
          (λ d r. (lt, refl, e, h, r)) rest.each;
      kept = kept;
      in_order = in_order_mapped f more (λ x y b. b) rest.in_order;
    }
      where
        f : Divided → Divided
        f = after (bound_variable w c.0 ∷ [], [])

        kept : (vs : List Variable) (ps : List SlotRange) → IsSplit sig ts to (Binder c ∷ items) n vs ps → AllByRecursion Stand ps → Contains (map f more) (vs, ps)
        kept [] ps s stand = absurd s
        kept (v ∷ vs) ps s stand =
            let two : Some (word v.word) ≡ Some (word w) = sym s.2 ∙ e in
            let one : word v.word ≡ word w = cc in
            let same : v.word ≡ w = ap (λ (t : Token). t.1) one in
            let is : v ≡ bound_variable w c.0 = s.1 ∙ ap (λ u. bound_variable u c.0) same in
            (contains_map f more (v ∷ vs, ps)).1 ((vs, ps), ap (λ u. (u ∷ vs, ps)) is, rest.kept vs ps s.4 stand)

    -- the splits from an item on
    pub item_splits : (items : List Item) (at n : ℕ) (x : Item) (all : List Divided) → at < length items → x ≡ get_or items at x
        → AreSplits Stand (IsSplit sig ts to (x ∷ drop (at + 1) items) n) all → AreSplits Stand (IsSplit sig ts to (drop at items) n) all
    item_splits items at n x all h is s =
        subst (λ xs. AreSplits Stand (IsSplit sig ts to xs n) all) (sym (drop_more items at x h ∙ ap (λ y. y ∷ drop (at + 1) items) (sym is))) s

-- what reading a place past the end would give
abbrev pub no_token : of_tokens.Token
no_token = record { kind = kinds.Word; text = record { ref_ptr = (0, 0); now = [] }; span = record { from = 0; to = 0 }; line = 0 }

pub if_ok : {T E : Type 0} (r : Result T E) (P Q : T → Type 0) → ((x : T) → P x → Q x) → IfOk r P → IfOk r Q
if_ok (Ok x) P Q f h = f x h
if_ok (Err e) P Q f h = tt
