-- Two readings of the same tokens stand at the same place, or one of them stands before the other, whatever variables are in scope.
use Rattle.std.proofs.Common.{◌≡◌, ◌⊎◌, ℕ, ◌+◌, ◌<◌, List, [], ◌∷◌, ◌++◌, length, get_or, inl, inr, refl, ap, ◌∙◌, sym, subst, arith, Some, slice_get}
use Rattle.std.proofs.lemmas.Bool.{cases_order}
use Rattle.std.proofs.lemmas.List.{append_cancel_right}
use Rattle.binding_terms.specs.Signature.{Signature}
use Rattle.binding_terms.specs.declared.grammar.Item.{Item}
use Rattle.binding_terms.specs.declared.grammar.Prod.{Prod}
use Rattle.scheme_terms.specs.SchemeTree.{SchemeTree, Values, Parts}
use Rattle.scheme_terms.specs.declared.scheme.MetaDecl.{MetaDecl}
use Rattle.rule_schemes.specs.Reading.{Token, word, punctuation, Variable, ReadsTerm, group, metavariable, variable, production, ReadsBrackets, no_brackets, brackets, ReadsArguments, one_more, last_one, ReadsItems, all_read, terminal, binder, slot}
use Rattle.rule_schemes.specs.Said.{Way, way, Ways, no_ways, then_way, ComesBefore, IsBefore, AreBefore, way_of_term, bracket_lengths, ways_of_brackets, argument_lengths, ways_of_arguments, item_lengths, ways_of_items}
use Rattle.binding_terms.proofs.Lists.{same_fronts}

-- one of two places stands before the other, or they are the same
abbrev pub Compared : {K : Type 0} → (K → K → Type 0) → K → K → Type 0
Compared Before k l = Before k l ⊎ ((k ≡ l) ⊎ Before l k)

-- so do the lengths and the places of slots, the lengths first
abbrev pub SlotsCompared : List ℕ → Ways → List ℕ → Ways → Type 0
SlotsCompared ls ws ks vs = ComesBefore ls ks ⊎ (ComesBefore ks ls ⊎ ((ls ≡ ks) × Compared AreBefore ws vs))

pub first_tells : (w v : Way) (ws vs : Ways) → Compared IsBefore w v → Compared AreBefore ws vs → Compared AreBefore (then_way w ws) (then_way v vs)
first_tells w v ws vs (inl b) c = inl (inl b)
first_tells w v ws vs (inr (inl e)) (inl c) = inl (inr (e, c))
first_tells w v ws vs (inr (inl e)) (inr (inl d)) = inr (inl (ap (λ u. then_way u ws) e ∙ ap (then_way v) d))
first_tells w v ws vs (inr (inl e)) (inr (inr c)) = inr (inr (inr (sym e, c)))
first_tells w v ws vs (inr (inr b)) c = inr (inr (inl b))

pub slots_tell : (a : ℕ) (ls ks : List ℕ) (ws vs : Ways) → SlotsCompared ls ws ks vs → Compared IsBefore (way a ls ws) (way a ks vs)
slots_tell a ls ks ws vs (inl b) = inl (inr (refl, inl b))
slots_tell a ls ks ws vs (inr (inl b)) = inr (inr (inr (refl, inl b)))
slots_tell a ls ks ws vs (inr (inr c)) = go c.1
  where
    go : Compared AreBefore ws vs → Compared IsBefore (way a ls ws) (way a ks vs)
    go (inl b) = inl (inr (refl, inr (c.0, b)))
    go (inr (inl e)) = inr (inl (ap (λ ns. way a ns ws) c.0 ∙ ap (way a ks) e))
    go (inr (inr b)) = inr (inr (inr (refl, inr (sym c.0, b))))

pub alternative_tells : (a b : ℕ) (ls ks : List ℕ) (ws vs : Ways) → (a ≡ b → SlotsCompared ls ws ks vs) → Compared IsBefore (way a ls ws) (way b ks vs)
alternative_tells a b ls ks ws vs h = go (cases_order a b)
  where
    go : (a ≡ b) ⊎ ((a < b) ⊎ (b < a)) → Compared IsBefore (way a ls ws) (way b ks vs)
    go (inl e) = subst (λ n. Compared IsBefore (way a ls ws) (way n ks vs)) e (slots_tell a ls ks ws vs (h e))
    go (inr (inl lt)) = inl (inl lt)
    go (inr (inr lt)) = inr (inr (inl lt))

-- the length of a slot before the other slots, and its own place before theirs
pub length_tells : (m n : ℕ) (w v : Way) (ls ks : List ℕ) (ws vs : Ways) → (m ≡ n → Compared IsBefore w v × SlotsCompared ls ws ks vs)
    → SlotsCompared (m ∷ ls) (then_way w ws) (n ∷ ks) (then_way v vs)
length_tells m n w v ls ks ws vs h = go (cases_order m n)
  where
    rest : m ≡ n → Compared IsBefore w v → SlotsCompared ls ws ks vs → SlotsCompared (m ∷ ls) (then_way w ws) (n ∷ ks) (then_way v vs)
    rest e c (inl b) = inl (inr (e, b))
    rest e c (inr (inl b)) = inr (inl (inr (sym e, b)))
    rest e c (inr (inr d)) = inr (inr (ap (λ i. i ∷ ls) e ∙ ap (λ is. n ∷ is) d.0, first_tells w v ws vs c d.1))

    go : (m ≡ n) ⊎ ((m < n) ⊎ (n < m)) → SlotsCompared (m ∷ ls) (then_way w ws) (n ∷ ks) (then_way v vs)
    go (inl e) = rest e (h e).0 (h e).1
    go (inr (inl lt)) = inl (inl lt)
    go (inr (inr lt)) = inr (inl (inl lt))

pub no_slots : SlotsCompared [] no_ways [] no_ways
no_slots = inr (inr (refl, inr (inl refl)))

pub comma_is_no_bracket : (us vs : List Token) → punctuation 44 ∷ us ≡ punctuation 93 ∷ vs → ⊥
comma_is_no_bracket us vs e =
    let same : punctuation 44 ≡ punctuation 93 = cc in
    let code : 44 ≡ 93 = ap (λ (t : Token). get_or t.1 0 0) same in
    omega (arith, code)

module _ {sig : Signature} {metas : List MetaDecl} where
  mutual
    pub terms_compare : {vars us : List Variable} {c d : ℕ} {ts rs : List Token} {s t : SchemeTree}
        → (r : ReadsTerm sig metas vars c ts s) (q : ReadsTerm sig metas us d rs t) → ts ≡ rs → Compared IsBefore (way_of_term r) (way_of_term q)
    terms_compare (group {inner = inner} f r) (group {inner = other} g q) e =
        let both : punctuation 40 ∷ (inner ++ punctuation 41 ∷ []) ≡ punctuation 40 ∷ (other ++ punctuation 41 ∷ []) = sym f ∙ e ∙ g in
        let inside : inner ++ punctuation 41 ∷ [] ≡ other ++ punctuation 41 ∷ [] = cc in
        slots_tell 0 [] [] (then_way (way_of_term r) no_ways) (then_way (way_of_term q) no_ways)
        (inr (inr (refl, first_tells (way_of_term r) (way_of_term q) no_ways no_ways (terms_compare r q (append_cancel_right inner other (punctuation 41 ∷ []) inside)) (inr (inl refl)))))
    terms_compare (group f r) (metavariable g m k q) e = inl (inl (omega arith))
    terms_compare (group f r) (variable g m) e = inl (inl (omega arith))
    terms_compare (group f r) (production m k q) e = inl (inl (omega arith))
    terms_compare (metavariable f m c r) (group g q) e = inr (inr (inl (omega arith)))
    terms_compare (metavariable {rest = rest} {decl = decl} f m c r) (metavariable {rest = other} {decl = another} g n k q) e =
        let both : word decl.name ∷ rest ≡ word another.name ∷ other = sym f ∙ e ∙ g in
        let same : rest ≡ other = cc in
        slots_tell 1 (bracket_lengths r) (bracket_lengths q) (ways_of_brackets r) (ways_of_brackets q) (brackets_compare r q same)
    terms_compare (metavariable f m c r) (variable g n) e = inl (inl (omega arith))
    terms_compare (metavariable f m c r) (production n k q) e = inl (inl (omega arith))
    terms_compare (variable f m) (group g q) e = inr (inr (inl (omega arith)))
    terms_compare (variable f m) (metavariable g n k q) e = inr (inr (inl (omega arith)))
    terms_compare (variable f m) (variable g n) e = inr (inl refl)
    terms_compare (variable f m) (production n k q) e = inl (inl (omega arith))
    terms_compare (production m c r) (group g q) e = inr (inr (inl (omega arith)))
    terms_compare (production m c r) (metavariable g n k q) e = inr (inr (inl (omega arith)))
    terms_compare (production m c r) (variable g n) e = inr (inr (inl (omega arith)))
    terms_compare (production {p = p} {prod = prod} m c r) (production {p = o} {prod = other} n k q) e =
        alternative_tells (3 + p) (3 + o) (item_lengths r) (item_lengths q) (ways_of_items r) (ways_of_items q)
        (λ h. items_compare r q (same_items p o prod other h m n) e)
      where
        same_items : (p o : ℕ) (prod other : Prod) → 3 + p ≡ 3 + o → slice_get sig.prods p ≡ Some prod → slice_get sig.prods o ≡ Some other → prod.items ≡ other.items
        same_items p o prod other h m n =
            let number : p ≡ o = omega (arith, h) in
            let both : Some prod ≡ Some other = sym m ∙ ap (slice_get sig.prods) number ∙ n in
            let same : prod ≡ other = cc in
            ap (λ (x : Prod). x.items) same

    pub brackets_compare : {vars us : List Variable} {ps os : List ℕ} {ts rs : List Token} {xs ys : Values}
        → (r : ReadsBrackets sig metas vars ps ts xs) (q : ReadsBrackets sig metas us os rs ys) → ts ≡ rs
        → SlotsCompared (bracket_lengths r) (ways_of_brackets r) (bracket_lengths q) (ways_of_brackets q)
    brackets_compare no_brackets no_brackets e = no_slots
    brackets_compare no_brackets (brackets {rest = rest} g q) e = let never : [] ≡ punctuation 91 ∷ rest = e ∙ g in cc
    brackets_compare (brackets {rest = rest} f r) no_brackets e = let never : punctuation 91 ∷ rest ≡ [] = sym f ∙ e in cc
    brackets_compare (brackets {rest = rest} f r) (brackets {rest = other} g q) e =
        let both : punctuation 91 ∷ rest ≡ punctuation 91 ∷ other = sym f ∙ e ∙ g in
        let same : rest ≡ other = cc in
        arguments_compare r q same

    pub arguments_compare : {vars us : List Variable} {ps os : List ℕ} {ts rs : List Token} {xs ys : Values}
        → (r : ReadsArguments sig metas vars ps ts xs) (q : ReadsArguments sig metas us os rs ys) → ts ≡ rs
        → SlotsCompared (argument_lengths r) (ways_of_arguments r) (argument_lengths q) (ways_of_arguments q)
    arguments_compare (one_more {first = first} {rest = rest} f t r) (one_more {first = begins} {rest = other} g u q) e =
        length_tells (length first) (length begins) (way_of_term t) (way_of_term u) (argument_lengths r) (argument_lengths q) (ways_of_arguments r) (ways_of_arguments q)
        (λ h. (let same = same_fronts first begins (punctuation 44 ∷ rest) (punctuation 44 ∷ other) (sym f ∙ e ∙ g) h in
        let after : punctuation 44 ∷ rest ≡ punctuation 44 ∷ other = same.1 in
        let others : rest ≡ other = cc in
        (terms_compare t u same.0, arguments_compare r q others)))
    arguments_compare (one_more {first = first} {rest = rest} f t r) (last_one {first = begins} {rest = other} g u q) e =
        length_tells (length first) (length begins) (way_of_term t) (way_of_term u) (argument_lengths r) (bracket_lengths q) (ways_of_arguments r) (ways_of_brackets q)
        (λ h. absurd (comma_is_no_bracket rest other (same_fronts first begins (punctuation 44 ∷ rest) (punctuation 93 ∷ other) (sym f ∙ e ∙ g) h).1))
    arguments_compare (last_one {first = first} {rest = rest} f t r) (one_more {first = begins} {rest = other} g u q) e =
        length_tells (length first) (length begins) (way_of_term t) (way_of_term u) (bracket_lengths r) (argument_lengths q) (ways_of_brackets r) (ways_of_arguments q)
        (λ h. absurd (comma_is_no_bracket other rest (sym (same_fronts first begins (punctuation 93 ∷ rest) (punctuation 44 ∷ other) (sym f ∙ e ∙ g) h).1)))
    arguments_compare (last_one {first = first} {rest = rest} f t r) (last_one {first = begins} {rest = other} g u q) e =
        length_tells (length first) (length begins) (way_of_term t) (way_of_term u) (bracket_lengths r) (bracket_lengths q) (ways_of_brackets r) (ways_of_brackets q)
        (λ h. (let same = same_fronts first begins (punctuation 93 ∷ rest) (punctuation 93 ∷ other) (sym f ∙ e ∙ g) h in
        let after : punctuation 93 ∷ rest ≡ punctuation 93 ∷ other = same.1 in
        let others : rest ≡ other = cc in
        (terms_compare t u same.0, brackets_compare r q others)))

    pub items_compare : {vars us own owns : List Variable} {words others : List (List ℕ)} {items jtems : List Item} {ts rs : List Token} {xs ys : Parts}
        → (r : ReadsItems sig metas vars own words items ts xs) (q : ReadsItems sig metas us owns others jtems rs ys) → items ≡ jtems → ts ≡ rs
        → SlotsCompared (item_lengths r) (ways_of_items r) (item_lengths q) (ways_of_items q)
    items_compare all_read all_read d e = no_slots
    items_compare all_read (terminal h q) d e = absurd (cc)
    items_compare all_read (binder h q) d e = absurd (cc)
    items_compare all_read (slot g h u q) d e = absurd (cc)
    items_compare (terminal k r) all_read d e = absurd (cc)
    items_compare (terminal {items = is} {tokens = before} k r) (terminal {items = js} {tokens = after} h q) d e =
        let items_same : is ≡ js = cc in
        let tokens_same : before ≡ after = cc in
        items_compare r q items_same tokens_same
    items_compare (terminal k r) (binder h q) d e = absurd (cc)
    items_compare (terminal k r) (slot g h u q) d e = absurd (cc)
    items_compare (binder k r) all_read d e = absurd (cc)
    items_compare (binder k r) (terminal h q) d e = absurd (cc)
    items_compare (binder {items = is} {tokens = before} k r) (binder {items = js} {tokens = after} h q) d e =
        let items_same : is ≡ js = cc in
        let tokens_same : before ≡ after = cc in
        items_compare r q items_same tokens_same
    items_compare (binder k r) (slot g h u q) d e = absurd (cc)
    items_compare (slot f k t r) all_read d e = absurd (cc)
    items_compare (slot f k t r) (terminal h q) d e = absurd (cc)
    items_compare (slot f k t r) (binder h q) d e = absurd (cc)
    items_compare (slot {items = is} {first = first} {rest = rest} f k t r) (slot {items = js} {first = begins} {rest = other} g h u q) d e =
        let items_same : is ≡ js = cc in
        length_tells (length first) (length begins) (way_of_term t) (way_of_term u) (item_lengths r) (item_lengths q) (ways_of_items r) (ways_of_items q)
        (λ l. (let same = same_fronts first begins rest other (sym f ∙ e ∙ g) l in (terms_compare t u same.0, items_compare r q items_same same.1)))
