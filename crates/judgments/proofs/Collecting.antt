-- How the names of tokens are collected.
use Rattle.std.proofs.Common.{◌≡◌, ◌≢◌, ◌⊎◌, ℕ, ◌+◌, ◌<◌, List, [], ◌∷◌, ◌++◌, length, map, take, get_or, inl, inr, refl, ap, ◌∙◌, sym, subst, append_assoc, append-nil}
use Rattle.std.specs.Prelude.{flat_map}
use Rattle.std.specs.List.{AllByRecursion}
use Rattle.std.proofs.lemmas.List.{take_more}
use Rattle.binding_terms.specs.declared.grammar.Cat.{Cat}
use Rattle.scheme_terms.specs.SchemeScope.{AreDifferentNames}
use Rattle.scheme_terms.specs.declared.scheme.MetaDecl.{MetaDecl}
use Rattle.rule_schemes.specs.Reading.{Token, word, IsCategoryWord}
use Rattle.rule_schemes.specs.NewNames.{AreInOrder, StandsBefore}
use Rattle.judgments.specs.Spellings.{IsNoSpelling}
use Rattle.judgments.specs.Collected.{IsAmong, StandsIn, IsCollected, AreCollected, IsKept, IsAdded, AreNext, AreCollectedFrom, IsLonger}
use Rattle.judgments.proofs.Spelling.{none_spelled}
use Rattle.binding_terms.proofs.Lists.{all_append, all_map, any_back, any_front, any_split, map_append}

before_more : (a b : List ℕ) (ts us : List Token) → StandsBefore a b ts → StandsBefore a b (ts ++ us)
before_more a b [] us h = absurd h
before_more a b (t ∷ ts) us (inl h) = inl h
before_more a b (t ∷ ts) us (inr h) = inr (h.0, before_more a b ts us h.1)

order_more : (ts us : List Token) (metas : List MetaDecl) → AreInOrder ts metas → AreInOrder (ts ++ us) metas
order_more ts us [] h = tt
order_more ts us (m ∷ []) h = tt
order_more ts us (m ∷ (n ∷ metas)) h = (h.0, before_more m.name n.name ts us h.1, order_more ts us (n ∷ metas) h.2)

-- what stands in the tokens is before what does not
before_new : (a b : List ℕ) (ts us : List Token) → StandsIn a ts → (StandsIn b ts → ⊥) → StandsBefore a b (ts ++ us)
before_new a b [] us h none = absurd h
before_new a b (t ∷ ts) us (inl h) none = inl h
before_new a b (t ∷ ts) us (inr h) none = inr (λ e. none (inl e), before_new a b ts us h (λ k. none (inr k)))

order_new : (ts us : List Token) (metas : List MetaDecl) (decl : MetaDecl) → AreInOrder ts metas → AllByRecursion (λ (m : MetaDecl). StandsIn m.name ts) metas
    → (StandsIn decl.name ts → ⊥) → (IsAmong decl.name metas → ⊥) → AreInOrder (ts ++ us) (metas ++ decl ∷ [])
order_new ts us [] decl h all none new = tt
order_new ts us (m ∷ []) decl h all none new = (λ e. new (inl e), before_new m.name decl.name ts us all.0 none, tt)
order_new ts us (m ∷ (n ∷ metas)) decl h all none new =
    (h.0, before_more m.name n.name ts us h.1, order_new ts us (n ∷ metas) decl h.2 all.1 none (λ k. new (inr k)))

different_new : (metas : List MetaDecl) (decl : MetaDecl) → AreDifferentNames (map (λ (m : MetaDecl). m.name) metas) → (IsAmong decl.name metas → ⊥)
    → AreDifferentNames (map (λ (m : MetaDecl). m.name) (metas ++ decl ∷ []))
different_new [] decl h new = (tt, tt)
different_new (m ∷ metas) decl h new = (apart metas h.0 (λ e. new (inl e)), different_new metas decl h.1 (λ k. new (inr k)))
  where
    apart : (ms : List MetaDecl) → AllByRecursion (λ v. m.name ≢ v) (map (λ (m : MetaDecl). m.name) ms) → m.name ≢ decl.name
        → AllByRecursion (λ v. m.name ≢ v) (map (λ (m : MetaDecl). m.name) (ms ++ decl ∷ []))
    apart [] h e = (e, tt)
    apart (n ∷ ms) h e = (h.0, apart ms h.1 e)

module _ (cats : List Cat) (tokens : List Token) (t : Token) where
  later : (decl : MetaDecl) → IsCollected cats tokens decl → IsCollected cats (tokens ++ t ∷ []) decl
  later decl h = record { written = any_front (λ u. u ≡ word decl.name) tokens (t ∷ []) h.written; cat = h.cat; params = h.params }

  kept : (before after : List MetaDecl) → AreCollected cats tokens before → IsKept cats before t after → AreCollected cats (tokens ++ t ∷ []) after
  kept before after h k =
      subst (AreCollected cats (tokens ++ t ∷ [])) (sym k.same)
      (record {
        each = all_map (IsCollected cats tokens) (IsCollected cats (tokens ++ t ∷ [])) later before h.each;
        all = λ w c s spelled. among w c spelled (any_split (λ u. u ≡ word w) tokens (t ∷ []) s);
        differ = h.differ;
        in_order = order_more tokens (t ∷ []) before h.in_order;
      })
    where
      here : (w : List ℕ) (c : ℕ) → IsCategoryWord cats c w → IsNoSpelling cats w ⊎ IsAmong w before → IsAmong w before
      here w c spelled (inl none) = absurd (none_spelled cats c w none spelled)
      here w c spelled (inr a) = a

      among : (w : List ℕ) (c : ℕ) → IsCategoryWord cats c w → StandsIn w tokens ⊎ StandsIn w (t ∷ []) → IsAmong w before
      among w c spelled (inl s) = h.all w c s spelled
      among w c spelled (inr (inl e)) = here w c spelled (k.no_new w e)
      among w c spelled (inr (inr never)) = absurd never

  added : (before after : List MetaDecl) → AreCollected cats tokens before → IsAdded cats before t after → AreCollected cats (tokens ++ t ∷ []) after
  added before after h k =
      subst (AreCollected cats (tokens ++ t ∷ [])) (sym k.at_end)
      (record {
        each = all_append (IsCollected cats (tokens ++ t ∷ [])) before (k.decl ∷ []) (all_map (IsCollected cats tokens) (IsCollected cats (tokens ++ t ∷ [])) later before h.each)
            (record { written = any_back (λ u. u ≡ word (k.decl).name) tokens (t ∷ []) (inl k.written); cat = k.cat; params = k.params }, tt);
        all = λ w c s spelled. among w c spelled (any_split (λ u. u ≡ word w) tokens (t ∷ []) s);
        differ = different_new before k.decl h.differ k.new;
        in_order = order_new tokens (t ∷ []) before k.decl h.in_order (all_map (IsCollected cats tokens) (λ (m : MetaDecl). StandsIn m.name tokens) (λ m i. i.written) before h.each)
            (λ s. k.new (h.all (k.decl).name (k.decl).cat.0 s k.cat)) k.new;
      })
    where
      among : (w : List ℕ) (c : ℕ) → IsCategoryWord cats c w → StandsIn w tokens ⊎ StandsIn w (t ∷ []) → IsAmong w (before ++ k.decl ∷ [])
      among w c spelled (inl s) = any_front (λ (m : MetaDecl). m.name ≡ w) before (k.decl ∷ []) (h.all w c s spelled)
      among w c spelled (inr (inl e)) =
          let two : word w ≡ word (k.decl).name = sym e ∙ k.written in
          let same : (k.decl).name ≡ w = sym (ap (λ (u : Token). u.1) two) in
          any_back (λ (m : MetaDecl). m.name ≡ w) before (k.decl ∷ []) (inl same)
      among w c spelled (inr (inr never)) = absurd never

  pub next : (before after : List MetaDecl) → AreCollected cats tokens before → AreNext cats before t after → AreCollected cats (tokens ++ t ∷ []) after
  next before after h (inl k) = kept before after h k
  next before after h (inr k) = added before after h k

module _ {X : Type 0} (f : X → Token) (cats : List Cat) (first before after : List MetaDecl) (xs : List X) (i : ℕ) (d : X) (lt : i < length xs) where
  -- one token more
  pub next_token : AreCollectedFrom cats first (map f (take i xs)) before → AreNext cats before (f (get_or xs i d)) after → AreCollectedFrom cats first (map f (take (i + 1) xs)) after
  next_token h k front all =
      let e : map f (take (i + 1) xs) ≡ map f (take i xs) ++ f (get_or xs i d) ∷ [] = ap (map f) (take_more xs i d lt) ∙ map_append f (take i xs) (get_or xs i d ∷ []) in
      subst (λ ts. AreCollected cats ts after) (append_assoc front (map f (take i xs)) (f (get_or xs i d) ∷ []) ∙ ap (λ ts. front ++ ts) (sym e))
      (next cats (front ++ map f (take i xs)) (f (get_or xs i d)) before after (h front all) k)

pub flat_append : {X : Type 0} (f : X → List Token) (xs ys : List X) → flat_map f (xs ++ ys) ≡ flat_map f xs ++ flat_map f ys
flat_append f [] ys = refl
flat_append f (x ∷ xs) ys = ap (λ l. f x ++ l) (flat_append f xs ys) ∙ sym (append_assoc (f x) (flat_map f xs) (flat_map f ys))

module _ {X : Type 0} (f : X → List Token) (cats : List Cat) (first before after : List MetaDecl) (xs : List X) (i : ℕ) (d : X) (lt : i < length xs) where
  -- one form more
  pub next_form : AreCollectedFrom cats first (flat_map f (take i xs)) before → AreCollectedFrom cats before (f (get_or xs i d)) after
      → AreCollectedFrom cats first (flat_map f (take (i + 1) xs)) after
  next_form h k front all =
      let e : flat_map f (take (i + 1) xs) ≡ flat_map f (take i xs) ++ f (get_or xs i d) =
      ap (flat_map f) (take_more xs i d lt) ∙ flat_append f (take i xs) (get_or xs i d ∷ []) ∙ ap (λ l. flat_map f (take i xs) ++ l) (append-nil (f (get_or xs i d))) in
      subst (λ ts. AreCollected cats ts after) (append_assoc front (flat_map f (take i xs)) (f (get_or xs i d)) ∙ ap (λ ts. front ++ ts) (sym e))
      (k (front ++ flat_map f (take i xs)) (h front all))

-- no names of no tokens
pub no_tokens : (cats : List Cat) → AreCollected cats [] []
no_tokens cats = record { each = tt; all = λ w c s spelled. s; differ = tt; in_order = tt }

pub longer_token : (cats : List Cat) (before after : List MetaDecl) (t : Token) → AreNext cats before t after → IsLonger before after
longer_token cats before after t (inl k) = ([], k.same ∙ sym (append-nil before))
longer_token cats before after t (inr k) = (k.decl ∷ [], k.at_end)

pub longer_again : (a b d : List MetaDecl) → IsLonger a b → IsLonger b d → IsLonger a d
longer_again a b d h k = (h.0 ++ k.0, k.1 ∙ ap (λ l. l ++ k.0) h.1 ∙ append_assoc a h.0 k.0)
