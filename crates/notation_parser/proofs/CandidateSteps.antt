-- How the candidates are found, token by token.
use Rattle.std.proofs.Common.{◌≡◌, ◌≢◌, ◌⊎◌, ℕ, ◌+◌, ◌<◌, ◌≤◌, List, [], ◌∷◌, ◌++◌, length, map, take, get_or, inl, inr, refl, ap, ◌∙◌, sym, subst, arith, Some, None}
use Rattle.std.specs.List.{AllByRecursion}
use Rattle.std.proofs.lemmas.List.{take_more, map-append}
use Rattle.binding_terms.specs.Numbered.{AnyByRecursion}
use Rattle.binding_terms.specs.Signature.{Signature}
use Rattle.binding_terms.specs.declared.grammar.CatId.{CatId}
use Rattle.scheme_terms.specs.declared.scheme.MetaDecl.{MetaDecl}
use Rattle.rule_schemes.specs.Reading.{Token, word}
use Rattle.rule_schemes.specs.NewNames.{AreInOrder, StandsBefore, IsNewMeta, IsOfFirst, IsPlainSpelling, FirstTells}
use Rattle.rule_schemes.proofs.Firsts.{IsFirst_once}
use Rattle.term_reader.specs.Names.{NamesApart}
use Rattle.notation_parser.specs.Candidates.{AreCandidates, StandsIn, AreCandidatesUpTo, IsNextCandidate}
use Rattle.notation_parser.proofs.Tellings.{first_tells_once, first_tells_stands}
use Rattle.binding_terms.proofs.Lists.{all_append, all_map, any_back, any_front, any_split}

-- none of them is so
pub none_named : (w : List ℕ) (metas : List MetaDecl) → (AnyByRecursion (λ (c : MetaDecl). c.name ≡ w) metas → ⊥) → AllByRecursion (λ (c : MetaDecl). c.name ≢ w) metas
none_named w [] h = tt
none_named w (m ∷ metas) h = (λ e. h (inl e), none_named w metas (λ k. h (inr k)))

pub not_named : (w : List ℕ) (metas : List MetaDecl) → AllByRecursion (λ (c : MetaDecl). c.name ≢ w) metas → AnyByRecursion (λ (c : MetaDecl). c.name ≡ w) metas → ⊥
not_named w [] h k = k
not_named w (m ∷ metas) h (inl e) = h.0 e
not_named w (m ∷ metas) h (inr k) = not_named w metas h.1 k

before_more : (a b : List ℕ) (ts us : List Token) → StandsBefore a b ts → StandsBefore a b (ts ++ us)
before_more a b [] us h = absurd h
before_more a b (t ∷ ts) us (inl h) = inl h
before_more a b (t ∷ ts) us (inr h) = inr (h.0, before_more a b ts us h.1)

order_more : (ts us : List Token) (metas : List MetaDecl) → AreInOrder ts metas → AreInOrder (ts ++ us) metas
order_more ts us [] h = tt
order_more ts us (m ∷ []) h = tt
order_more ts us (m ∷ (n ∷ metas)) h = (h.0, before_more m.name n.name ts us h.1, order_more ts us (n ∷ metas) h.2)

-- what stands in the tokens is before what does not
before_new : (a b : List ℕ) (ts us : List Token) → StandsIn a ts → (StandsIn b ts → ⊥) → StandsBefore a b (ts ++ us)
before_new a b [] us h none = absurd h
before_new a b (t ∷ ts) us (inl h) none = inl h
before_new a b (t ∷ ts) us (inr h) none = inr (λ e. none (inl e), before_new a b ts us h (λ k. none (inr k)))

order_new : (ts us : List Token) (metas : List MetaDecl) (decl : MetaDecl) → AreInOrder ts metas → AllByRecursion (λ (m : MetaDecl). StandsIn m.name ts) metas
    → (StandsIn decl.name ts → ⊥) → AllByRecursion (λ (m : MetaDecl). m.name ≢ decl.name) metas → AreInOrder (ts ++ us) (metas ++ decl ∷ [])
order_new ts us [] decl h all none new = tt
order_new ts us (m ∷ []) decl h all none new = (new.0, before_new m.name decl.name ts us all.0 none, tt)
order_new ts us (m ∷ (n ∷ metas)) decl h all none new =
    (h.0, before_more m.name n.name ts us h.1, order_new ts us (n ∷ metas) decl h.2 all.1 none new.1)

apart_new : (metas : List MetaDecl) (decl : MetaDecl) → NamesApart metas → AllByRecursion (λ (m : MetaDecl). m.name ≢ decl.name) metas → NamesApart (metas ++ decl ∷ [])
apart_new [] decl h new = (tt, tt)
apart_new (m ∷ metas) decl h new =
    (all_append (λ (n : MetaDecl). m.name ≢ n.name) metas (decl ∷ []) h.0 (new.0, tt), apart_new metas decl h.1 new.1)

-- numbers of categories tell the categories
same_cats : (cs ds : List CatId) → map (λ (c : CatId). c.0) cs ≡ map (λ (c : CatId). c.0) ds → cs ≡ ds
same_cats [] [] e = refl
same_cats [] (d ∷ ds) e = (let never : [] ≡ d.0 ∷ map (λ (c : CatId). c.0) ds = e in cc)
same_cats (c ∷ cs) [] e = (let never : c.0 ∷ map (λ (c : CatId). c.0) cs ≡ [] = e in cc)
same_cats (c ∷ cs) (d ∷ ds) e =
    let both : c.0 ∷ map (λ (c : CatId). c.0) cs ≡ d.0 ∷ map (λ (c : CatId). c.0) ds = e in
    let first : c.0 ≡ d.0 = cc in
    let rest : map (λ (c : CatId). c.0) cs ≡ map (λ (c : CatId). c.0) ds = cc in
    ap (λ (n : ℕ). record { 0 = n } ∷ cs) first ∙ ap (λ (xs : List CatId). d ∷ xs) (same_cats cs ds rest)

module _ (sig : Signature) (metas : List MetaDecl) (tokens : List Token) where
  -- a name is that of one new metavariable
  pub one_new_meta : (a b : MetaDecl) → IsNewMeta sig metas tokens a → IsNewMeta sig metas tokens b → a.name ≡ b.name → a ≡ b
  one_new_meta a b h k e =
      let number : a.cat.0 ≡ b.cat.0 = IsFirst_once (λ c. IsPlainSpelling sig c b.name) a.cat.0 b.cat.0 (subst (IsOfFirst sig a.cat.0) e h.cat) k.cat in
      let params : a.params ≡ b.params =
      same_cats a.params b.params
      (first_tells_once sig b.name tokens (map (λ (c : CatId). c.0) a.params) (map (λ (c : CatId). c.0) b.params)
      (subst (λ w. FirstTells sig w tokens (map (λ (c : CatId). c.0) a.params)) e h.params) k.params) in
      λ i. record { name = e i; cat = record { 0 = number i }; params = params i }

  named_is : (decl : MetaDecl) → IsNewMeta sig metas tokens decl → (found : List MetaDecl) → AllByRecursion (IsNewMeta sig metas tokens) found → AnyByRecursion (λ (c : MetaDecl). c.name ≡ decl.name) found
      → AnyByRecursion (λ c. c ≡ decl) found
  named_is decl new [] each h = h
  named_is decl new (c ∷ found) each (inl e) = inl (one_new_meta c decl each.0 new e)
  named_is decl new (c ∷ found) each (inr h) = inr (named_is decl new found each.1 h)

  names_of : (decl : MetaDecl) (found : List MetaDecl) → AnyByRecursion (λ c. c ≡ decl) found → AnyByRecursion (λ (c : MetaDecl). c.name ≡ decl.name) found
  names_of decl [] h = h
  names_of decl (c ∷ found) (inl e) = inl (ap (λ (m : MetaDecl). m.name) e)
  names_of decl (c ∷ found) (inr h) = inr (names_of decl found h)

  abbrev pub UpTo : List Token → List MetaDecl → Type 0
  UpTo = AreCandidatesUpTo sig metas tokens

  stand_more : (front : List Token) (t : Token) (found : List MetaDecl) → AllByRecursion (λ (c : MetaDecl). StandsIn c.name front) found
      → AllByRecursion (λ (c : MetaDecl). StandsIn c.name (front ++ t ∷ [])) found
  stand_more front t found h =
      all_map (λ (c : MetaDecl). StandsIn c.name front) (λ (c : MetaDecl). StandsIn c.name (front ++ t ∷ [])) (λ c k. any_front (λ u. u ≡ word c.name) front (t ∷ []) k) found h

  pub none_next : (front : List Token) (t : Token) (found : List MetaDecl) → UpTo front found → IsNextCandidate sig metas found tokens t None → UpTo (front ++ t ∷ []) found
  none_next front t found h none = record {
    each = h.each;
    all = λ decl new stands. go decl new (any_split (λ u. u ≡ word decl.name) front (t ∷ []) stands);
    stand = stand_more front t found h.stand;
    in_order = order_more front (t ∷ []) found h.in_order;
    apart = h.apart;
  }
    where
      go : (decl : MetaDecl) → IsNewMeta sig metas tokens decl → StandsIn decl.name front ⊎ StandsIn decl.name (t ∷ []) → AnyByRecursion (λ c. c ≡ decl) found
      go decl new (inl k) = h.all decl new k
      go decl new (inr (inl e)) = named_is decl new found h.each (none decl new e)
      go decl new (inr (inr never)) = absurd never

  pub some_next : (front : List Token) (t : Token) (found : List MetaDecl) (decl : MetaDecl) → UpTo front found → IsNextCandidate sig metas found tokens t (Some decl)
      → UpTo (front ++ t ∷ []) (found ++ decl ∷ [])
  some_next front t found decl h next = record {
    each = all_append (IsNewMeta sig metas tokens) found (decl ∷ []) h.each (next.0, tt);
    all = λ d new stands. go d new (any_split (λ u. u ≡ word d.name) front (t ∷ []) stands);
    stand = all_append (λ (c : MetaDecl). StandsIn c.name (front ++ t ∷ [])) found (decl ∷ []) (stand_more front t found h.stand) (any_back (λ u. u ≡ word decl.name) front (t ∷ []) (inl next.1), tt);
    in_order = order_new front (t ∷ []) found decl h.in_order h.stand (λ k. not_named decl.name found next.2 (names_of decl found (h.all decl next.0 k))) next.2;
    apart = apart_new found decl h.apart next.2;
  }
    where
      go : (d : MetaDecl) → IsNewMeta sig metas tokens d → StandsIn d.name front ⊎ StandsIn d.name (t ∷ []) → AnyByRecursion (λ c. c ≡ d) (found ++ decl ∷ [])
      go d new (inl k) = any_front (λ c. c ≡ d) found (decl ∷ []) (h.all d new k)
      go d new (inr (inl e)) = any_back (λ c. c ≡ d) found (decl ∷ []) (inl (one_new_meta decl d next.0 new (ap (λ (u : Token). u.1) (sym next.1 ∙ e))))
      go d new (inr (inr never)) = absurd never

  module _ {X : Type 0} (f : X → Token) (xs : List X) (i : ℕ) (d : X) (lt : i < length xs) (found : List MetaDecl) (h : UpTo (map f (take i xs)) found) where
    one_more : map f (take (i + 1) xs) ≡ map f (take i xs) ++ f (get_or xs i d) ∷ []
    one_more = ap (map f) (take_more xs i d lt) ∙ map-append f (take i xs) (get_or xs i d ∷ [])

    -- one token more
    pub after_none : IsNextCandidate sig metas found tokens (f (get_or xs i d)) None → UpTo (map f (take (i + 1) xs)) found
    after_none next = subst (λ ts. UpTo ts found) (sym one_more) (none_next (map f (take i xs)) (f (get_or xs i d)) found h next)

    pub after_some : (decl : MetaDecl) → IsNextCandidate sig metas found tokens (f (get_or xs i d)) (Some decl) → UpTo (map f (take (i + 1) xs)) (found ++ decl ∷ [])
    after_some decl next = subst (λ ts. UpTo ts (found ++ decl ∷ [])) (sym one_more) (some_next (map f (take i xs)) (f (get_or xs i d)) found decl h next)

  -- no token
  pub no_candidates : UpTo [] []
  no_candidates = record { each = tt; all = λ decl new stands. stands; stand = tt; in_order = tt; apart = tt }

  pub all_found : (found : List MetaDecl) → UpTo tokens found → AreCandidates sig metas tokens found
  all_found found h = record {
    each = h.each;
    all = λ decl new. h.all decl new (first_tells_stands sig decl.name tokens (map (λ (c : CatId). c.0) decl.params) new.params);
    in_order = h.in_order;
    apart = h.apart;
  }

-- what a new metavariable is made of
pub a_candidate : (sig : Signature) (metas found : List MetaDecl) (tokens : List Token) (t : Token) (w name : List ℕ) (cat : CatId) (params : List CatId)
    → t ≡ word w → name ≡ w → AllByRecursion (λ (m : MetaDecl). m.name ≢ w) metas → (AnyByRecursion (λ (m : MetaDecl). m.name ≡ w) found → ⊥) → IsOfFirst sig cat.0 w
    → FirstTells sig w tokens (map (λ (c : CatId). c.0) params)
    → IsNextCandidate sig metas found tokens t (Some (record { name = name; cat = cat; params = params }))
a_candidate sig metas found tokens t w name cat params is same new other plain tells = (
  record {
    new = subst (λ v. AllByRecursion (λ (m : MetaDecl). m.name ≢ v) metas) (sym same) new;
    cat = subst (IsOfFirst sig cat.0) (sym same) plain;
    params = subst (λ v. FirstTells sig v tokens (map (λ (c : CatId). c.0) params)) (sym same) tells;
  },
  is ∙ ap word (sym same),
  subst (λ v. AllByRecursion (λ (m : MetaDecl). m.name ≢ v) found) (sym same) (none_named w found other),
)
