-- Groups and metavariables at the ends of a range.
use Rattle.std.proofs.Common.{◌≡◌, ℕ, ◌+◌, ◌-◌, ◌<◌, ◌≤◌, List, [], ◌∷◌, ◌++◌, length, ap, ◌∙◌, sym, subst, arith, Some, slice_get, slice_range, length-append}
use Rattle.std.proofs.lemmas.List.{length-map}
use Rattle.scheme_terms.specs.SchemeTree.{SchemeTree, meta}
use Rattle.scheme_terms.specs.declared.scheme.MetaDecl.{MetaDecl}
use Rattle.rule_schemes.specs.Reading.{Token, word, punctuation, Variable}
use Rattle.rule_schemes.specs.Said.{Way, IsBefore}
use Rattle.term_reader.specs.Cases.{IsGroup, IsNameOf}
use Rattle.term_reader.specs.Firsts.{AreFirst}
use Rattle.term_reader.specs.Ordered.{ReadsTermAt, ReadsBracketsAt}
use Rattle.term_reader.specs.Splitting.{Divided, IsBracketed, AreSplits, AreKnown, Stands, tokens_of, IsMadeIn}
use Rattle.term_reader.specs.View.{token}
use Rattle.term_reader.specs.declared.sheet.Sheet.{Sheet}
use Rattle.term_reader.specs.declared.reading.Head.TheVariants.{Meta}
use Rattle.term_reader.proofs.Finding.{AreFirst-same}
use Rattle.term_reader.proofs.Pieces.{numbers}
use Rattle.term_reader.proofs.Ranges.{range_length, range_cons, range_end, range_none, range_begins, range_two, range_front}
use Rattle.term_reader.proofs.TermCases.{group_read, made_in_brackets}

-- a range that lies in the tokens lies in what is seen of them
pub seen : (sheet : Sheet) (to : ℕ) → to ≤ length sheet.tokens.now → to ≤ length (tokens_of sheet)
seen sheet to h = omega (arith, length-map sheet.tokens.now token)

module _ (sheet : Sheet) (vars : List Variable) (n to : ℕ) (some : n ≤ to) (within : to ≤ length sheet.tokens.now) where
  abbrev us : List Token
  us = slice_range (tokens_of sheet) n to

  -- no metavariable where no token is its name
  pub no_name_here : (m : ℕ) (decl : MetaDecl) (c : ℕ) → (n < to → slice_get (tokens_of sheet) n ≡ Some (word decl.name) → ⊥)
      → AreFirst IsBefore (IsNameOf sheet.sig.now sheet.metas.now vars m decl c us) []
  no_name_here m decl c none = λ w s h.
      (let b = range_begins (tokens_of sheet) n to (word decl.name) h.6 some (seen sheet to within) (sym h.7) in none b.0 b.1)

  -- no group in fewer than two tokens
  pub group_short : (c : ℕ) → to - n < 2 → AreFirst IsBefore (IsGroup sheet.sig.now sheet.metas.now vars c us) []
  group_short c short = λ w s h.
      (let l = ap length h.2 in
      let two : length (h.0 ++ punctuation 41 ∷ []) ≡ length h.0 + 1 = length-append h.0 (punctuation 41 ∷ []) in
      absurd (omega (arith, l, two, range_length (tokens_of sheet) n to some (seen sheet to within))))

  -- no group without its parentheses
  pub no_group : (c : ℕ) → (slice_get (tokens_of sheet) n ≡ Some (punctuation 40) → slice_get (tokens_of sheet) (to - 1) ≡ Some (punctuation 41) → ⊥)
      → AreFirst IsBefore (IsGroup sheet.sig.now sheet.metas.now vars c us) []
  no_group c none = λ w s h.
      (let ts = tokens_of sheet in
      let k = seen sheet to within in
      let b = range_begins ts n to (punctuation 40) (h.0 ++ punctuation 41 ∷ []) some k (sym h.2) in
      let f = range_front ts n to (punctuation 40 ∷ h.0) (punctuation 41 ∷ []) some k h.2 in
      let place = n + length (punctuation 40 ∷ h.0) in
      let e = range_begins ts place to (punctuation 41) [] f.0 k (sym f.2) in
      let next : place + 1 ≤ to = omega (arith, e.0) in
      let end : place + 1 ≡ to = range_end ts (place + 1) to next k e.2 in
      let last : place ≡ to - 1 = omega (arith, end) in
      none b.1 (subst (λ i. slice_get ts i ≡ Some (punctuation 41)) last e.1))

  -- a group, where what stands in it is read
  pub group_in_range : (c : ℕ) (found : List SchemeTree) → n + 2 ≤ to → slice_get (tokens_of sheet) n ≡ Some (punctuation 40)
      → slice_get (tokens_of sheet) (to - 1) ≡ Some (punctuation 41)
      → AreFirst IsBefore (ReadsTermAt sheet.sig.now sheet.metas.now vars c (slice_range (tokens_of sheet) (n + 1) (to - 1))) found
      → AreFirst IsBefore (IsGroup sheet.sig.now sheet.metas.now vars c us) found
  group_in_range c found two first last f =
      let ts = tokens_of sheet in
      let k = seen sheet to within in
      let lt : n < to = omega arith in
      let mid : n + 1 ≤ to - 1 = omega arith in
      let le : to - 1 ≤ to = omega arith in
      let end : to - 1 < to = omega arith in
      let next : to - 1 + 1 ≡ to = omega arith in
      let rest : slice_range ts (to - 1) to ≡ punctuation 41 ∷ [] =
      range_cons ts (to - 1) to (punctuation 41) end k last ∙ ap (λ vs. punctuation 41 ∷ vs) (ap (λ i. slice_range ts i to) next ∙ range_none ts to k) in
      group_read sheet.sig.now sheet.metas.now vars c us (slice_range ts (n + 1) (to - 1)) found
      (range_cons ts n to (punctuation 40) lt k first
      ∙ ap (λ vs. punctuation 40 ∷ vs) (range_two ts (n + 1) (to - 1) to mid le k ∙ ap (λ vs. slice_range ts (n + 1) (to - 1) ++ vs) rest)) f

-- a metavariable, where its brackets are read
pub name_read : (sheet : Sheet) (vars : List Variable) → AreKnown sheet vars → (n to : ℕ) → to ≤ length sheet.tokens.now → (m : ℕ) (decl : MetaDecl) (c : ℕ)
    (number : ℕ) (all : List Divided) (found : List SchemeTree) → number ≡ m → decl.cat.0 ≡ c → n < to → slice_get (tokens_of sheet) n ≡ Some (word decl.name)
    → AreSplits (Stands sheet) (IsBracketed (tokens_of sheet) to decl.params (n + 1)) all
    → AreFirst IsBefore (IsMadeIn sheet vars 1 (Meta (record { 0 = number })) all) found
    → AreFirst IsBefore (IsNameOf sheet.sig.now sheet.metas.now vars m decl c (slice_range (tokens_of sheet) n to)) found
name_read sheet vars known n to within m decl c number all found is cat lt here splits f =
    AreFirst-same IsBefore _ (IsNameOf sheet.sig.now sheet.metas.now vars m decl c (slice_range ts n to)) found (λ w s. (there w s, back w s)) f
  where
    ts : List Token
    ts = tokens_of sheet

    k : to ≤ length (tokens_of sheet)
    k = seen sheet to within

    next : n + 1 ≤ to
    next = omega arith

    whole : slice_range (tokens_of sheet) n to ≡ word decl.name ∷ slice_range (tokens_of sheet) (n + 1) to
    whole = range_cons (tokens_of sheet) n to (word decl.name) lt k here

    there : (w : Way) (s : SchemeTree) → IsMadeIn sheet vars 1 (Meta (record { 0 = number })) all w s
        → IsNameOf sheet.sig.now sheet.metas.now vars m decl c (slice_range (tokens_of sheet) n to) w s
    there w s h =
        let b = (made_in_brackets sheet vars known (n + 1) to next k (record { 0 = number }) decl.params all w s splits).0 h in
        (b.0, b.1, b.2, b.3, b.4 ∙ ap (λ i. meta i b.0) is, cat, slice_range (tokens_of sheet) (n + 1) to, whole, b.5)

    back : (w : Way) (s : SchemeTree) → IsNameOf sheet.sig.now sheet.metas.now vars m decl c (slice_range (tokens_of sheet) n to) w s
        → IsMadeIn sheet vars 1 (Meta (record { 0 = number })) all w s
    back w s h =
        let two : word decl.name ∷ slice_range (tokens_of sheet) (n + 1) to ≡ word decl.name ∷ h.6 = sym whole ∙ h.7 in
        let rest : h.6 ≡ slice_range (tokens_of sheet) (n + 1) to = cc in
        (made_in_brackets sheet vars known (n + 1) to next k (record { 0 = number }) decl.params all w s splits).1
        (h.0, h.1, h.2, h.3, h.4 ∙ ap (λ i. meta i h.0) (sym is), subst (λ rs. ReadsBracketsAt sheet.sig.now sheet.metas.now vars (numbers decl.params) rs h.1 h.2 h.0) rest h.8)
