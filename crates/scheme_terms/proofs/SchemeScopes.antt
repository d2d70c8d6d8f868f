-- Raising, and schemes that are put in, keep the category and the scope of a scheme.
use Rattle.std.proofs.Common.{◌≡◌, ◌⊎◌, ℕ, ◌+◌, ◌-◌, ◌<◌, ◌≤◌, List, [], ◌∷◌, ◌++◌, length, map, reverse, Some, slice_get, unwrap_or, inl, inr, ap, ◌∙◌, sym, subst, append_assoc, length-append, arith}
use Rattle.std.specs.List.{AllZip}
use Rattle.std.proofs.lemmas.Bool.{cases_lt}
use Rattle.std.proofs.lemmas.List.{length-reverse}
use Rattle.std.proofs.lemmas.Option.{slice_get_within}
use Rattle.std.proofs.lemmas.Slice.Zip.{AllZip-long}
use Rattle.binding_terms.specs.Tree.{var}
use Rattle.binding_terms.specs.Signature.{Signature, Place, slots, binders}
use Rattle.binding_terms.specs.Scope.{bound}
use Rattle.binding_terms.proofs.Scopes.{IsTerm-shift}
use Rattle.scheme_terms.specs.SchemeTree.{SchemeTree, meta, known, local, con, Values, no_values, value, Parts, no_parts, part, shifted, shifted_values, shifted_parts, under, filled, filled_values, filled_parts}
use Rattle.scheme_terms.specs.Forms.{Names, Substitution}
use Rattle.scheme_terms.specs.Context.{variables}
use Rattle.scheme_terms.specs.SchemeScope.{IsScheme, AreValues, AreSchemeParts, params_scope}
use Rattle.scheme_terms.specs.Substituting.{known_for, argument_or_local, applied, applied_values, applied_parts, IsSubstitution, IsKnownValue, applied_entry}
use Rattle.scheme_terms.specs.Laws.{ShiftKeepsScheme, ApplyKeepsScope}
use Rattle.scheme_terms.specs.declared.scheme.MetaDecl.{MetaDecl}
use Rattle.scheme_terms.proofs.Options.{zip_at}
use Rattle.scheme_terms.proofs.Arguments.{argument_at}
use Rattle.scheme_terms.proofs.SchemeFacts.{length_bound}
use Rattle.scheme_terms.proofs.SchemeFilling.{under_at, under_past}
use Rattle.binding_terms.proofs.Lists.{append_beyond, append_within, match_from, match_some, zip_reverse}

module _ (sig : Signature) (names : Names) (new outer : List ℕ) where
  mutual
    pub shifted_scheme : (inner : List ℕ) (c : ℕ) (s : SchemeTree) → IsScheme sig names (inner ++ outer) c s →
        IsScheme sig names (inner ++ (new ++ outer)) c (shifted (length inner) (length new) s)
    shifted_scheme inner c (meta m vs) h =
        let found = match_some (slice_get names.metas m) (λ decl. (decl.cat.0 ≡ c) × AreValues sig names (inner ++ outer) (map (λ p. p.0) decl.params) vs) h in
        match_from (slice_get names.metas m)
        (λ decl. (decl.cat.0 ≡ c) × AreValues sig names (inner ++ (new ++ outer)) (map (λ p. p.0) decl.params) (shifted_values (length inner) (length new) vs))
        found.0 found.1 (found.2.0, shifted_are_values inner (map (λ p. p.0) found.0.params) vs found.2.1)
    shifted_scheme inner c (known k) h = h
    shifted_scheme inner c (local i) h = IsTerm-shift sig new outer inner c (var i) h
    shifted_scheme inner c (con p xs) h =
        let found = match_some (slice_get sig.prods p) (λ prod. (prod.cat.0 ≡ c) × AreSchemeParts sig names (inner ++ outer) (binders prod.items) (slots prod.items) xs) h in
        match_from (slice_get sig.prods p)
        (λ prod. (prod.cat.0 ≡ c) × AreSchemeParts sig names (inner ++ (new ++ outer)) (binders prod.items) (slots prod.items) (shifted_parts (length inner) (length new) xs))
        found.0 found.1 (found.2.0, shifted_are_parts inner (binders found.0.items) (slots found.0.items) xs found.2.1)

    shifted_are_values : (inner cs : List ℕ) (vs : Values) → AreValues sig names (inner ++ outer) cs vs →
        AreValues sig names (inner ++ (new ++ outer)) cs (shifted_values (length inner) (length new) vs)
    shifted_are_values inner [] no_values h = tt
    shifted_are_values inner [] (value s vs) h = h
    shifted_are_values inner (c ∷ cs) no_values h = h
    shifted_are_values inner (c ∷ cs) (value s vs) h = (shifted_scheme inner c s h.0, shifted_are_values inner cs vs h.1)

    shifted_are_parts : (inner bs : List ℕ) (ss : List Place) (xs : Parts) → AreSchemeParts sig names (inner ++ outer) bs ss xs →
        AreSchemeParts sig names (inner ++ (new ++ outer)) bs ss (shifted_parts (length inner) (length new) xs)
    shifted_are_parts inner bs [] no_parts h = tt
    shifted_are_parts inner bs [] (part n s xs) h = h
    shifted_are_parts inner bs (at ∷ ss) no_parts h = h
    shifted_are_parts inner bs (at ∷ ss) (part n s xs) h =
        let own : List ℕ = bound bs at.binds in
        let deep : length (own ++ inner) ≡ length inner + n = omega (arith, length-append own inner, length_bound bs at.binds, h.0) in
        let body : IsScheme sig names ((own ++ inner) ++ outer) at.cat s = subst (λ ls. IsScheme sig names ls at.cat s) (sym (append_assoc own inner outer)) h.1 in
        let raised_body : IsScheme sig names ((own ++ inner) ++ (new ++ outer)) at.cat (shifted (length (own ++ inner)) (length new) s) = shifted_scheme (own ++ inner) at.cat s body in (
          h.0,
          subst (λ ls. IsScheme sig names ls at.cat (shifted (length inner + n) (length new) s)) (append_assoc own inner (new ++ outer))
              (subst (λ d. IsScheme sig names ((own ++ inner) ++ (new ++ outer)) at.cat (shifted d (length new) s)) deep raised_body),
          shifted_are_parts inner bs ss xs h.2,
        )

-- schemes of the locals' categories are put in for them
abbrev pub FillsLocals : Signature → Names → (from to : List ℕ) → (ℕ → SchemeTree) → Type 0
FillsLocals sig names from to f = (i c : ℕ) → slice_get from i ≡ Some c → IsScheme sig names to c (f i)

fills_under : (sig : Signature) (names : Names) (own from to : List ℕ) (f : ℕ → SchemeTree) → FillsLocals sig names from to f →
    FillsLocals sig names (own ++ from) (own ++ to) (under (length own) f)
fills_under sig names own from to f fills i c is = at (cases_lt i (length own))
  where
    at : (i < length own) ⊎ (length own ≤ i) → IsScheme sig names (own ++ to) c (under (length own) f i)
    at (inl h) =
        subst (IsScheme sig names (own ++ to) c) (sym (under_at (length own) f i h)) (append_within own to i h ∙ sym (append_within own from i h) ∙ is)
    at (inr h) =
        let there : IsScheme sig names to c (f (i - length own)) = fills (i - length own) c (sym (append_beyond own from i h) ∙ is) in
        subst (IsScheme sig names (own ++ to) c) (sym (under_past (length own) f i h)) (shifted_scheme sig names own to [] c (f (i - length own)) there)

module _ (sig : Signature) (names : Names) where
  mutual
    pub filled_scheme : (from to : List ℕ) (f : ℕ → SchemeTree) → FillsLocals sig names from to f → (c : ℕ) (s : SchemeTree) → IsScheme sig names from c s →
        IsScheme sig names to c (filled f s)
    filled_scheme from to f fills c (meta m vs) h =
        let found = match_some (slice_get names.metas m) (λ decl. (decl.cat.0 ≡ c) × AreValues sig names from (map (λ p. p.0) decl.params) vs) h in
        match_from (slice_get names.metas m) (λ decl. (decl.cat.0 ≡ c) × AreValues sig names to (map (λ p. p.0) decl.params) (filled_values f vs))
        found.0 found.1 (found.2.0, filled_are_values from to f fills (map (λ p. p.0) found.0.params) vs found.2.1)
    filled_scheme from to f fills c (known k) h = h
    filled_scheme from to f fills c (local i) h = fills i c h
    filled_scheme from to f fills c (con p xs) h =
        let found = match_some (slice_get sig.prods p) (λ prod. (prod.cat.0 ≡ c) × AreSchemeParts sig names from (binders prod.items) (slots prod.items) xs) h in
        match_from (slice_get sig.prods p) (λ prod. (prod.cat.0 ≡ c) × AreSchemeParts sig names to (binders prod.items) (slots prod.items) (filled_parts f xs))
        found.0 found.1 (found.2.0, filled_are_parts from to f fills (binders found.0.items) (slots found.0.items) xs found.2.1)

    filled_are_values : (from to : List ℕ) (f : ℕ → SchemeTree) → FillsLocals sig names from to f → (cs : List ℕ) (vs : Values) → AreValues sig names from cs vs →
        AreValues sig names to cs (filled_values f vs)
    filled_are_values from to f fills [] no_values h = tt
    filled_are_values from to f fills [] (value s vs) h = h
    filled_are_values from to f fills (c ∷ cs) no_values h = h
    filled_are_values from to f fills (c ∷ cs) (value s vs) h = (filled_scheme from to f fills c s h.0, filled_are_values from to f fills cs vs h.1)

    filled_are_parts : (from to : List ℕ) (f : ℕ → SchemeTree) → FillsLocals sig names from to f → (bs : List ℕ) (ss : List Place) (xs : Parts) →
        AreSchemeParts sig names from bs ss xs → AreSchemeParts sig names to bs ss (filled_parts f xs)
    filled_are_parts from to f fills bs [] no_parts h = tt
    filled_are_parts from to f fills bs [] (part n s xs) h = h
    filled_are_parts from to f fills bs (at ∷ ss) no_parts h = h
    filled_are_parts from to f fills bs (at ∷ ss) (part n s xs) h =
        let own : List ℕ = bound bs at.binds in
        let deep : length own ≡ n = length_bound bs at.binds ∙ sym h.0 in
        let body : IsScheme sig names (own ++ to) at.cat (filled (under (length own) f) s) =
        filled_scheme (own ++ from) (own ++ to) (under (length own) f) (fills_under sig names own from to f fills) at.cat s h.1 in
        (h.0, subst (λ d. IsScheme sig names (own ++ to) at.cat (filled (under d f) s)) deep body, filled_are_parts from to f fills bs ss xs h.2)

arguments_fill : (sig : Signature) (names : Names) (ls cs : List ℕ) (args : List SchemeTree) → AllZip (λ c s. IsScheme sig names ls c s) cs args →
    FillsLocals sig names (reverse cs) ls (argument_or_local (length ls) args)
arguments_fill sig names ls cs args h i c is =
    let long : length args ≡ length cs = AllZip-long (λ c s. IsScheme sig names ls c s) cs args h in
    let below : i < length args = omega (arith, long, slice_get_within (reverse cs) i c is, length-reverse cs) in
    let found = zip_at (λ c s. IsScheme sig names ls c s) (reverse cs) (reverse args) (zip_reverse (λ c s. IsScheme sig names ls c s) cs args h) i c is in
    subst (IsScheme sig names ls c) (sym (argument_at (local 0) (λ j. local (j + length ls)) args i below ∙ ap (λ o. unwrap_or o (local 0)) found.1)) found.2

-- schemes of another scope put in for names
module _ (sig : Signature) (names : Names) (by : Substitution) (is : IsSubstitution sig names by) where
  mutual
    pub applied_scheme : (ls : List ℕ) (c : ℕ) (s : SchemeTree) → IsScheme sig names ls c s → IsScheme sig by.into ls c (applied by.metas by.knowns (length ls) s)
    applied_scheme ls c (meta m vs) h =
        let found = match_some (slice_get names.metas m) (λ decl. (decl.cat.0 ≡ c) × AreValues sig names ls (map (λ p. p.0) decl.params) vs) h in
        let decl : MetaDecl = found.0 in
        let stored = zip_at (λ d s. IsScheme sig by.into (params_scope d) d.cat.0 s) names.metas by.metas is.metas m decl found.1 in
        let fills = arguments_fill sig by.into ls (map (λ p. p.0) decl.params) (applied_values by.metas by.knowns (length ls) vs)
        (applied_are_values ls (map (λ p. p.0) decl.params) vs found.2.1) in
        let put : IsScheme sig by.into ls decl.cat.0 (filled (argument_or_local (length ls) (applied_values by.metas by.knowns (length ls) vs)) stored.0) =
        filled_scheme sig by.into (params_scope decl) ls (argument_or_local (length ls) (applied_values by.metas by.knowns (length ls) vs)) fills decl.cat.0 stored.0 stored.2 in
        subst (λ o. IsScheme sig by.into ls c (filled (argument_or_local (length ls) (applied_values by.metas by.knowns (length ls) vs)) (unwrap_or o (local 0)))) (sym stored.1)
        (subst (λ d. IsScheme sig by.into ls d (filled (argument_or_local (length ls) (applied_values by.metas by.knowns (length ls) vs)) stored.0)) found.2.0 put)
    applied_scheme ls c (known k) h =
        let found = match_some (slice_get names.knowns k) (λ decl. variables sig decl.entry.prod ≡ c ∷ []) h in
        let stored = zip_at (IsKnownValue by) names.knowns by.knowns is.knowns k found.0 found.1 in
        let other = match_some (slice_get by.into.knowns stored.0) (λ other. other.entry ≡ applied_entry by 0 found.0.entry) stored.2 in
        match_from (slice_get by.into.knowns (known_for by.knowns k)) (λ decl. variables sig decl.entry.prod ≡ c ∷ []) other.0
        (ap (λ o. slice_get by.into.knowns (unwrap_or o k)) stored.1 ∙ other.1) (ap (λ e. variables sig e.prod) other.2 ∙ found.2)
    applied_scheme ls c (local i) h = h
    applied_scheme ls c (con p xs) h =
        let found = match_some (slice_get sig.prods p) (λ prod. (prod.cat.0 ≡ c) × AreSchemeParts sig names ls (binders prod.items) (slots prod.items) xs) h in
        match_from (slice_get sig.prods p)
        (λ prod. (prod.cat.0 ≡ c) × AreSchemeParts sig by.into ls (binders prod.items) (slots prod.items) (applied_parts by.metas by.knowns (length ls) xs))
        found.0 found.1 (found.2.0, applied_are_parts ls (binders found.0.items) (slots found.0.items) xs found.2.1)

    applied_are_values : (ls cs : List ℕ) (vs : Values) → AreValues sig names ls cs vs →
        AllZip (λ c s. IsScheme sig by.into ls c s) cs (applied_values by.metas by.knowns (length ls) vs)
    applied_are_values ls [] no_values h = tt
    applied_are_values ls [] (value s vs) h = absurd h
    applied_are_values ls (c ∷ cs) no_values h = absurd h
    applied_are_values ls (c ∷ cs) (value s vs) h = (applied_scheme ls c s h.0, applied_are_values ls cs vs h.1)

    applied_are_parts : (ls bs : List ℕ) (ss : List Place) (xs : Parts) → AreSchemeParts sig names ls bs ss xs →
        AreSchemeParts sig by.into ls bs ss (applied_parts by.metas by.knowns (length ls) xs)
    applied_are_parts ls bs [] no_parts h = tt
    applied_are_parts ls bs [] (part n s xs) h = h
    applied_are_parts ls bs (at ∷ ss) no_parts h = h
    applied_are_parts ls bs (at ∷ ss) (part n s xs) h =
        let own : List ℕ = bound bs at.binds in
        let deep : length (own ++ ls) ≡ length ls + n = omega (arith, length-append own ls, length_bound bs at.binds, h.0) in
        let body : IsScheme sig by.into (own ++ ls) at.cat (applied by.metas by.knowns (length (own ++ ls)) s) = applied_scheme (own ++ ls) at.cat s h.1 in
        (h.0, subst (λ d. IsScheme sig by.into (own ++ ls) at.cat (applied by.metas by.knowns d s)) deep body, applied_are_parts ls bs ss xs h.2)

pub shift_keeps_scheme : ShiftKeepsScheme
shift_keeps_scheme sig scope inner new outer c s h = shifted_scheme sig scope new outer inner c s h

pub apply_keeps_scope : ApplyKeepsScope
apply_keeps_scope sig scope by ls c s is h = applied_scheme sig scope by is ls c s h
