-- A turn keeps what a state is: what each move leads to.
use Rattle.std.proofs.Common.{◌≡◌, ◌≢◌, ◌⊎◌, ℕ, ◌+◌, ◌-◌, ◌<◌, ◌≤◌, Bool, true, false, ◌==◌, if◌then◌else◌, List, [], ◌∷◌, ◌++◌, length, map, reverse, drop, Option, Some, None, MatchOption, option_map, slice_get, unwrap_or, inl, inr, refl, ap, sym, ◌∙◌, subst, arith}
use Rattle.std.specs.List.{AllByRecursion}
use Rattle.std.proofs.lemmas.Bool.{cases_lt}
use Rattle.std.proofs.lemmas.Bool.Decides.{nat_tests}
use Rattle.std.proofs.lemmas.List.{length-reverse, reverse-append}
use Rattle.std.proofs.lemmas.Option.{slice_get_within}
use Rattle.binding_terms.specs.Signature.{Signature, Place, slots, binders}
use Rattle.binding_terms.specs.Scope.{bound}
use Rattle.binding_terms.specs.declared.grammar.CatId.{CatId}
use Rattle.binding_terms.specs.declared.grammar.Prod.{Prod}
use Rattle.binding_terms.proofs.Lists.{all_at, all_middle, append_within, append_beyond, match_from, match_map, match_some}
use Rattle.scheme_terms.specs.SchemeTree.{SchemeTree, meta, known, local, con, Values, no_values, value, Parts, no_parts, part, values, listed, filled, filled_values, filled_parts, under}
use Rattle.scheme_terms.specs.Forms.{Names, SchemeEntry, KnownVariable}
use Rattle.scheme_terms.specs.SchemeScope.{IsScheme, AreValues, AreSchemeParts, AreSchemes, IsKnownEntry, params_scope}
use Rattle.scheme_terms.specs.Substituting.{parameters, params}
use Rattle.scheme_terms.specs.declared.scheme.MetaDecl.{MetaDecl}
use Rattle.scheme_terms.specs.declared.scheme.Root.{Root}
use Rattle.scheme_terms.specs.declared.scheme.Root.TheVariants.{Closed, Empty, Whole}
use Rattle.scheme_terms.proofs.SchemeFacts.{length_bound, length_values}
use Rattle.scheme_terms.proofs.SchemeFilling.{under_at, under_past}
use Rattle.scheme_terms.proofs.SchemeScopes.{shifted_scheme}
use Rattle.pattern_unify.specs.Equations.{SchemeEquation, AreSides}
use Rattle.pattern_unify.specs.Patterns.{IsAmong, HasLocalsAmong, HaveLocalsAmong, PartsHaveLocalsAmong, is_one_local, parameter_at, over_parameters, marked, common_arguments}
use Rattle.pattern_unify.specs.State.{State, Step, names_of, names_after, after_step, with_equations, becomes, becomes_new, joins_to, decl_with}
use Rattle.pattern_unify.specs.Moves.{Row, delete, decompose, clash, join, meet, prune, bind, Direction, left_first, right_first, named_first, named_second, AreOfOneProduction, CanJoin, CanBind}
use Rattle.pattern_unify.specs.Move.{Next, goes_on, has_none, Move, deletes, decomposes, clashes, joins, meets, prunes, binds, part_equations, argument_equations, production_binders, production_slots, entry_equations, entry_args}
use Rattle.pattern_unify.specs.Laws.{IsState, TurnKeepsState}
use Rattle.pattern_unify.proofs.Renaming.{step_keeps, after_scheme, one_meta_keeps, one_known_keeps, own_values}
use Rattle.pattern_unify.proofs.Fewer.{meta_typed}
use Rattle.pattern_unify.proofs.TurnFalling.{first_typed, second_typed}

-- other equations in the place of one

replaced : (P : SchemeEquation → Type 0) (before : List SchemeEquation) (e : SchemeEquation) (rest new : List SchemeEquation) →
    AllByRecursion P (before ++ e ∷ rest) → AllByRecursion P new → AllByRecursion P (before ++ (new ++ rest))
replaced P [] e rest new h g = onto new g
  where
    onto : (new : List SchemeEquation) → AllByRecursion P new → AllByRecursion P (new ++ rest)
    onto [] g = h.1
    onto (x ∷ xs) g = (g.0, onto xs g.1)
replaced P (b ∷ before) e rest new h g = (h.0, replaced P before e rest new h.1 g)

-- the state with other equations between schemes of one category
other_equations : (sig : Signature) (names : Names) (st : State) (before : List SchemeEquation) (e : SchemeEquation) (rest new : List SchemeEquation) →
    st.equations ≡ before ++ e ∷ rest → AllByRecursion (AreSides sig (names_of st)) new → IsState sig names st →
    IsState sig names (with_equations (before ++ (new ++ rest)) st)
other_equations sig names st before e rest new at typed state = record {
  root = state.root;
  knowns = state.knowns;
  sides = replaced (AreSides sig (names_of st)) before e rest new (subst (AllByRecursion (AreSides sig (names_of st))) at state.sides) typed;
  values = state.values;
}

-- the arguments of a production

parts_sides : (sig : Signature) (names : Names) (ls bs : List ℕ) (ss : List Place) (xs ys : Parts) → AreSchemeParts sig names ls bs ss xs →
    AreSchemeParts sig names ls bs ss ys → AllByRecursion (AreSides sig names) (part_equations ls bs ss xs ys)
parts_sides sig names ls bs [] xs ys h g = tt
parts_sides sig names ls bs (at ∷ ss) no_parts ys h g = tt
parts_sides sig names ls bs (at ∷ ss) (part m x xs) no_parts h g = tt
parts_sides sig names ls bs (at ∷ ss) (part m x xs) (part n y ys) h g = ((at.cat, h.1, g.1), parts_sides sig names ls bs ss xs ys h.2 g.2)

pub parts_of_production : (sig : Signature) (names : Names) (ls : List ℕ) (c p : ℕ) (xs : Parts) → IsScheme sig names ls c (con p xs) →
    AreSchemeParts sig names ls (production_binders sig p) (production_slots sig p) xs
parts_of_production sig names ls c p xs h = at (slice_get sig.prods p) h
  where
    at : (o : Option Prod) → MatchOption o ⊥ (λ prod. (prod.cat.0 ≡ c) × AreSchemeParts sig names ls (binders prod.items) (slots prod.items) xs) →
        AreSchemeParts sig names ls (unwrap_or (option_map (λ prod. binders prod.items) o) []) (unwrap_or (option_map (λ prod. slots prod.items) o) []) xs
    at None g = absurd g
    at (Some prod) g = g.1

pub arguments_sides : (sig : Signature) (names : Names) (e : SchemeEquation) (p : ℕ) (xs ys : Parts) → AreSides sig names e → e.left ≡ con p xs → e.right ≡ con p ys →
    AllByRecursion (AreSides sig names) (argument_equations sig e p xs ys)
arguments_sides sig names e p xs ys typed l r =
    parts_sides sig names e.locals (production_binders sig p) (production_slots sig p) xs ys
    (parts_of_production sig names e.locals typed.0 p xs (subst (IsScheme sig names e.locals typed.0) l typed.1))
    (parts_of_production sig names e.locals typed.0 p ys (subst (IsScheme sig names e.locals typed.0) r typed.2))

-- the arguments of two entries of one production

abbrev pub entry_places : Signature → ℕ → List Place
entry_places sig p = drop 1 (production_slots sig p)

pub entry_typed : (sig : Signature) (names : Names) (root : Root) (e : SchemeEntry) → IsKnownEntry sig names root e → AreSchemes sig names [] (entry_places sig e.prod) e.args
entry_typed sig names Closed e h = absurd h
entry_typed sig names (Empty c) e h = absurd h
entry_typed sig names (Whole c) e h = at (slice_get sig.prods e.prod) h
  where
    at : (o : Option Prod) → MatchOption o ⊥ (λ prod. (prod.cat.0 ≡ c.0) × (binders prod.items ≢ []) × AreSchemes sig names [] (drop 1 (slots prod.items)) e.args) →
        AreSchemes sig names [] (drop 1 (unwrap_or (option_map (λ prod. slots prod.items) o) [])) e.args
    at None g = absurd g
    at (Some prod) g = g.2

pub entries_sides : (sig : Signature) (names : Names) (places : List Place) (ss ts : List SchemeTree) → AreSchemes sig names [] places ss → AreSchemes sig names [] places ts →
    AllByRecursion (AreSides sig names) (entry_equations ss ts)
entries_sides sig names places [] ts h g = tt
entries_sides sig names places (s ∷ ss) [] h g = tt
entries_sides sig names [] (s ∷ ss) (t ∷ ts) h g = absurd h
entries_sides sig names (at ∷ places) (s ∷ ss) (t ∷ ts) h g = ((at.cat, h.0, g.0), entries_sides sig names places ss ts h.1 g.1)

pub args_at : (names : Names) (k : ℕ) (decl : KnownVariable) → slice_get names.knowns k ≡ Some decl → entry_args names k ≡ decl.entry.args
args_at names k decl e = ap (λ o. unwrap_or (option_map (λ d. d.entry.args) o) []) e

-- two known variables of the scope whose entries are of one production
pub record AreTwo (names : Names) (k l : ℕ) : Type 0 where
  pub one : KnownVariable
  pub other : KnownVariable
  pub one_at : slice_get names.knowns k ≡ Some one
  pub other_at : slice_get names.knowns l ≡ Some other
  pub same : one.entry.prod ≡ other.entry.prod

are_two : (names : Names) (k l : ℕ) → AreOfOneProduction names k l → AreTwo names k l
are_two names k l h =
    let first = match_some (slice_get names.knowns k) (λ a. MatchOption (slice_get names.knowns l) ⊥ (λ b. a.entry.prod ≡ b.entry.prod)) h in
    let second = match_some (slice_get names.knowns l) (λ b. first.0.entry.prod ≡ b.entry.prod) first.2 in
    record { one = first.0; other = second.0; one_at = first.1; other_at = second.1; same = second.2 }

pub turned : {names : Names} {k l : ℕ} → AreTwo names k l → AreTwo names l k
turned two = record { one = two.other; other = two.one; one_at = two.other_at; other_at = two.one_at; same = sym two.same }

pub joined_two : (names : Names) (direction : Direction) (e : SchemeEquation) (k l : ℕ) → e.left ≡ known k → e.right ≡ known l →
    CanJoin names (named_first direction e) (named_second direction e) → AreTwo names k l
joined_two names left_first e k l left right h =
    are_two names k l (let both : CanJoin names (known k) (known l) = subst (λ s. CanJoin names s (known l)) left (subst (CanJoin names e.left) right h) in both.1)
joined_two names right_first e k l left right h =
    turned (are_two names l k (let both : CanJoin names (known l) (known k) = subst (λ s. CanJoin names s (known k)) right (subst (CanJoin names e.right) left h) in both.1))

join_keeps : (sig : Signature) (names : Names) (st : State) (before : List SchemeEquation) (e : SchemeEquation) (rest : List SchemeEquation) (low high : ℕ) →
    st.equations ≡ before ++ e ∷ rest → AreTwo (names_of st) low high → IsState sig names st →
    IsState sig names (after_step (joins_to high low (names_of st))
    (with_equations (before ++ (entry_equations (entry_args (names_of st) low) (entry_args (names_of st) high) ++ rest)) st))
join_keeps sig names st before e rest low high at two state =
    step_keeps sig names (joins_to high low (names_of st)) (with_equations (before ++ (entry_equations (entry_args (names_of st) low) (entry_args (names_of st) high) ++ rest)) st)
    (one_known_keeps sig (names_of st) (joins_to high low (names_of st)) state.knowns high low two.other two.one two.other_at two.one_at two.same refl refl)
    (other_equations sig names st before e rest (entry_equations (entry_args (names_of st) low) (entry_args (names_of st) high)) at
    (subst (λ ss. AllByRecursion (AreSides sig (names_of st)) (entry_equations ss (entry_args (names_of st) high))) (sym (args_at (names_of st) low two.one two.one_at))
    (subst (λ ts. AllByRecursion (AreSides sig (names_of st)) (entry_equations two.one.entry.args ts)) (sym (args_at (names_of st) high two.other two.other_at))
    (entries_sides sig (names_of st) (entry_places sig two.one.entry.prod) two.one.entry.args two.other.entry.args
    (entry_typed sig (names_of st) (names_of st).root two.one.entry (all_at (λ d. IsKnownEntry sig (names_of st) (names_of st).root d.entry) (names_of st).knowns low two.one state.knowns two.one_at))
    (subst (λ p. AreSchemes sig (names_of st) [] (entry_places sig p) two.other.entry.args) (sym two.same)
    (entry_typed sig (names_of st) (names_of st).root two.other.entry
    (all_at (λ d. IsKnownEntry sig (names_of st) (names_of st).root d.entry) (names_of st).knowns high two.other state.knowns two.other_at))))))
    state)

-- a new metavariable with some of the parameters

pub marked_values : (sig : Signature) (names : Names) (ls : List ℕ) (keeps : List Bool) (cs : List CatId) (ss : List SchemeTree) →
    AreValues sig names ls (map (λ c. c.0) cs) (values ss) → AreValues sig names ls (map (λ c. c.0) (marked keeps cs)) (values (marked keeps ss))
marked_values sig names ls [] cs ss h = tt
marked_values sig names ls (b ∷ bs) [] [] h = tt
marked_values sig names ls (b ∷ bs) [] (s ∷ ss) h = absurd h
marked_values sig names ls (b ∷ bs) (c ∷ cs) [] h = absurd h
marked_values sig names ls (true ∷ bs) (c ∷ cs) (s ∷ ss) h = (h.0, marked_values sig names ls bs cs ss h.1)
marked_values sig names ls (false ∷ bs) (c ∷ cs) (s ∷ ss) h = marked_values sig names ls bs cs ss h.1

pub last_at : (decls : List MetaDecl) (decl : MetaDecl) → slice_get (decls ++ decl ∷ []) (length decls) ≡ Some decl
last_at [] decl = refl
last_at (d ∷ decls) decl = last_at decls decl

new_keeps : (sig : Signature) (names : Names) (st : State) (m : ℕ) (decl : MetaDecl) (keeps : List Bool) → slice_get (names_of st).metas m ≡ Some decl →
    IsState sig names st → IsState sig names (after_step (becomes_new m decl keeps (names_of st)) st)
new_keeps sig names st m decl keeps e state =
    let step : Step = becomes_new m decl keeps (names_of st) in
    let own : AreValues sig (names_after (names_of st) step) (params_scope decl) (map (λ c. c.0) decl.params) (values (parameters (params decl))) =
    meta_typed sig (names_after (names_of st) step) (params_scope decl) decl.cat.0 m (values (parameters (params decl))) decl
    (own_values sig (names_of st) step state.knowns m decl e) (append_within (names_of st).metas step.made m (slice_get_within (names_of st).metas m decl e) ∙ e) in
    let typed : IsScheme sig (names_after (names_of st) step) (params_scope decl) decl.cat.0 (meta (length (names_of st).metas) (values (marked keeps (parameters (params decl))))) =
    match_from (slice_get (names_after (names_of st) step).metas (length (names_of st).metas))
    (λ d. (d.cat.0 ≡ decl.cat.0) × AreValues sig (names_after (names_of st) step) (params_scope decl) (map (λ p. p.0) d.params) (values (marked keeps (parameters (params decl)))))
    (decl_with keeps decl) (last_at (names_of st).metas (decl_with keeps decl))
    (refl, marked_values sig (names_after (names_of st) step) (params_scope decl) keeps decl.params (parameters (params decl)) own) in
    step_keeps sig names step st
    (one_meta_keeps sig (names_of st) step state.knowns m (meta (length (names_of st).metas) (values (marked keeps (parameters (params decl))))) decl e typed refl refl) state

-- a scheme over the parameters of a metavariable, for one whose locals are all among a pattern's

-- whether the argument is the local
is_it : (s : SchemeTree) (i : ℕ) → is_one_local s (local i) ≡ true → s ≡ local i
is_it (meta m vs) i e = cc
is_it (known k) i e = cc
is_it (local j) i e = ap local (let same : j ≡ i = grind (arith, nat_tests) in same)
is_it (con p xs) i e = cc

is_not : (s : SchemeTree) (i : ℕ) → is_one_local s (local i) ≡ false → s ≡ local i → ⊥
is_not s i e same =
    let yes : is_one_local (local i) (local i) ≡ true = (let own : (i == i) ≡ true = grind (arith, nat_tests) in own) in
    let no : is_one_local (local i) (local i) ≡ false = subst (λ t. is_one_local t (local i) ≡ false) same e in
    cc

two_cats : {A : Type 0} (o : Option A) (b c : A) → o ≡ Some b → o ≡ Some c → b ≡ c
two_cats o b c e f = let same : Some b ≡ Some c = sym e ∙ f in cc

-- the parameter for which a local is the argument is of the local's category
parameter_typed : (sig : Signature) (names : Names) (ls cs : List ℕ) (vs : Values) (i c : ℕ) → AreValues sig names ls cs vs → IsAmong i vs → slice_get ls i ≡ Some c →
    slice_get (reverse cs) (parameter_at vs i) ≡ Some c
parameter_typed sig names ls [] no_values i c h among is = absurd among
parameter_typed sig names ls [] (value s vs) i c h among is = absurd h
parameter_typed sig names ls (b ∷ cs) no_values i c h among is = absurd among
parameter_typed sig names ls (b ∷ cs) (value s vs) i c h among is =
    ap (λ ds. slice_get ds (parameter_at (value s vs) i)) (reverse-append (b ∷ []) cs)
    ∙ at (λ later. parameter_typed sig names ls cs vs i c h.1 later is) (is_one_local s (local i)) refl
  where
    at : (IsAmong i vs → slice_get (reverse cs) (parameter_at vs i) ≡ Some c) → (found : Bool) → is_one_local s (local i) ≡ found → slice_get (reverse cs ++ b ∷ []) (if found then length (listed vs) else parameter_at vs i) ≡ Some c
    at rest true e =
        let long : length (reverse cs) ≡ length (listed vs) = length-reverse cs ∙ sym (length_values sig names ls cs vs h.1) in
        let here : slice_get ls i ≡ Some b = subst (IsScheme sig names ls b) (is_it s i e) h.0 in
        ap (slice_get (reverse cs ++ b ∷ [])) (sym long) ∙ last_of (reverse cs) b ∙ ap Some (two_cats (slice_get ls i) b c here is)
      where
        last_of : (ds : List ℕ) (d : ℕ) → slice_get (ds ++ d ∷ []) (length ds) ≡ Some d
        last_of [] d = refl
        last_of (x ∷ ds) d = last_of ds d
    at rest false e = elim among [
      | inl same ↦ absurd (is_not s i e same)
      | inr later ↦
          let found = rest later in
          append_within (reverse cs) (b ∷ []) (parameter_at vs i) (slice_get_within (reverse cs) (parameter_at vs i) c found) ∙ found
    ]

-- schemes of their categories are put in for the locals that are bound below or among the arguments
abbrev FillsThese : Signature → Names → (from to : List ℕ) → Values → (binders : ℕ) → (ℕ → SchemeTree) → Type 0
FillsThese sig names from to vs d f = (i c : ℕ) → slice_get from i ≡ Some c → (i < d) ⊎ IsAmong (i - d) vs → IsScheme sig names to c (f i)

these_under : (sig : Signature) (names : Names) (own from to : List ℕ) (vs : Values) (d : ℕ) (f : ℕ → SchemeTree) → FillsThese sig names from to vs d f →
    FillsThese sig names (own ++ from) (own ++ to) vs (d + length own) (under (length own) f)
these_under sig names own from to vs d f fills i c is among = at (cases_lt i (length own))
  where
    below : length own ≤ i → (i < d + length own) ⊎ IsAmong (i - (d + length own)) vs → (i - length own < d) ⊎ IsAmong (i - length own - d) vs
    below from_on (inl h) = inl (omega (arith, h, from_on))
    below from_on (inr h) = inr (subst (λ k. IsAmong k vs) (let e : i - (d + length own) ≡ i - length own - d = omega arith in e) h)

    at : (i < length own) ⊎ (length own ≤ i) → IsScheme sig names (own ++ to) c (under (length own) f i)
    at (inl h) =
        subst (IsScheme sig names (own ++ to) c) (sym (under_at (length own) f i h)) (append_within own to i h ∙ sym (append_within own from i h) ∙ is)
    at (inr h) =
        let there : IsScheme sig names to c (f (i - length own)) = fills (i - length own) c (sym (append_beyond own from i h) ∙ is) (below h among) in
        subst (IsScheme sig names (own ++ to) c) (sym (under_past (length own) f i h)) (shifted_scheme sig names own to [] c (f (i - length own)) there)

module _ (sig : Signature) (names : Names) (vs : Values) where
  mutual
    these_filled : (from to : List ℕ) (d : ℕ) (f : ℕ → SchemeTree) → FillsThese sig names from to vs d f → (c : ℕ) (s : SchemeTree) → IsScheme sig names from c s →
        HasLocalsAmong vs d s → IsScheme sig names to c (filled f s)
    these_filled from to d f fills c (meta m ws) h among =
        match_map (slice_get names.metas m) (λ decl. (decl.cat.0 ≡ c) × AreValues sig names from (map (λ p. p.0) decl.params) ws)
        (λ decl. (decl.cat.0 ≡ c) × AreValues sig names to (map (λ p. p.0) decl.params) (filled_values f ws))
        (λ (decl : MetaDecl) g. (g.0, these_filled_values from to d f fills (map (λ p. p.0) decl.params) ws g.1 among)) h
    these_filled from to d f fills c (known k) h among = h
    these_filled from to d f fills c (local i) h among = fills i c h among
    these_filled from to d f fills c (con p xs) h among =
        match_map (slice_get sig.prods p) (λ prod. (prod.cat.0 ≡ c) × AreSchemeParts sig names from (binders prod.items) (slots prod.items) xs)
        (λ prod. (prod.cat.0 ≡ c) × AreSchemeParts sig names to (binders prod.items) (slots prod.items) (filled_parts f xs))
        (λ (prod : Prod) g. (g.0, these_filled_parts from to d f fills (binders prod.items) (slots prod.items) xs g.1 among)) h

    these_filled_values : (from to : List ℕ) (d : ℕ) (f : ℕ → SchemeTree) → FillsThese sig names from to vs d f → (cs : List ℕ) (ws : Values) →
        AreValues sig names from cs ws → HaveLocalsAmong vs d ws → AreValues sig names to cs (filled_values f ws)
    these_filled_values from to d f fills [] no_values h among = tt
    these_filled_values from to d f fills [] (value s ws) h among = h
    these_filled_values from to d f fills (c ∷ cs) no_values h among = h
    these_filled_values from to d f fills (c ∷ cs) (value s ws) h among =
        (these_filled from to d f fills c s h.0 among.0, these_filled_values from to d f fills cs ws h.1 among.1)

    these_filled_parts : (from to : List ℕ) (d : ℕ) (f : ℕ → SchemeTree) → FillsThese sig names from to vs d f → (bs : List ℕ) (ss : List Place) (xs : Parts) →
        AreSchemeParts sig names from bs ss xs → PartsHaveLocalsAmong vs d xs → AreSchemeParts sig names to bs ss (filled_parts f xs)
    these_filled_parts from to d f fills bs [] no_parts h among = tt
    these_filled_parts from to d f fills bs [] (part n s xs) h among = h
    these_filled_parts from to d f fills bs (at ∷ ss) no_parts h among = h
    these_filled_parts from to d f fills bs (at ∷ ss) (part n s xs) h among =
        let own : List ℕ = bound bs at.binds in
        let deep : length own ≡ n = length_bound bs at.binds ∙ sym h.0 in
        let body : IsScheme sig names (own ++ to) at.cat (filled (under (length own) f) s) =
        these_filled (own ++ from) (own ++ to) (d + length own) (under (length own) f) (these_under sig names own from to vs d f fills) at.cat s h.1
        (subst (λ k. HasLocalsAmong vs (d + k) s) (sym deep) among.0) in
        (h.0, subst (λ k. IsScheme sig names (own ++ to) at.cat (filled (under k f) s)) deep body, these_filled_parts from to d f fills bs ss xs h.2 among.1)

pub over_parameters_typed : (sig : Signature) (names : Names) (ls : List ℕ) (c : ℕ) (decl : MetaDecl) (vs : Values) (t : SchemeTree) →
    AreValues sig names ls (map (λ p. p.0) decl.params) vs → HasLocalsAmong vs 0 t → IsScheme sig names ls c t → IsScheme sig names (params_scope decl) c (over_parameters vs t)
over_parameters_typed sig names ls c decl vs t typed among h =
    these_filled sig names vs ls (params_scope decl) 0 (λ i. local (parameter_at vs i)) fills c t h among
  where
    fills : FillsThese sig names ls (params_scope decl) vs 0 (λ i. local (parameter_at vs i))
    fills i b is (inl below) = absurd (let never : ⊥ = omega (arith, below) in never)
    fills i b is (inr one) =
        parameter_typed sig names ls (map (λ p. p.0) decl.params) vs i b typed (subst (λ k. IsAmong k vs) (let e : i - 0 ≡ i = omega arith in e) one) is

bind_keeps : (sig : Signature) (names : Names) (st : State) (ls : List ℕ) (c m : ℕ) (vs : Values) (t : SchemeTree) → IsScheme sig (names_of st) ls c (meta m vs) →
    IsScheme sig (names_of st) ls c t → HasLocalsAmong vs 0 t → IsState sig names st → IsState sig names (after_step (becomes m (over_parameters vs t) (names_of st)) st)
bind_keeps sig names st ls c m vs t one two among state =
    let found = match_some (slice_get (names_of st).metas m) (λ decl. (decl.cat.0 ≡ c) × AreValues sig (names_of st) ls (map (λ p. p.0) decl.params) vs) one in
    let step : Step = becomes m (over_parameters vs t) (names_of st) in
    let typed : IsScheme sig (names_of st) (params_scope found.0) c (over_parameters vs t) = over_parameters_typed sig (names_of st) ls c found.0 vs t found.2.1 among two in
    step_keeps sig names step st
    (one_meta_keeps sig (names_of st) step state.knowns m (over_parameters vs t) found.0 found.1
    (after_scheme sig (names_of st) step (params_scope found.0) found.0.cat.0 (over_parameters vs t)
    (subst (λ d. IsScheme sig (names_of st) (params_scope found.0) d (over_parameters vs t)) (sym found.2.0) typed)) refl refl) state

-- the state that a move leads to

abbrev next_state : State → Next → State
next_state st (goes_on next) = next
next_state st has_none = st

abbrev goes : Next → ℕ
goes (goes_on next) = 1
goes has_none = 0

led : (sig : Signature) (names : Names) (next result : State) → goes_on next ≡ goes_on result → IsState sig names result → IsState sig names next
led sig names next result same h = subst (IsState sig names) (sym (ap (next_state next) same)) h

move_keeps : (sig : Signature) (names : Names) (st : State) (before : List SchemeEquation) (e : SchemeEquation) (rest : List SchemeEquation) (direction : Direction)
    (next : State) (row : Row) → st.equations ≡ before ++ e ∷ rest → IsState sig names st → AreSides sig (names_of st) e →
    Move sig st before e rest direction (goes_on next) row → IsState sig names next
move_keeps sig names st before e rest direction next delete at state typed (deletes a h) =
    led sig names next (with_equations (before ++ rest) st) h (other_equations sig names st before e rest [] at tt state)
move_keeps sig names st before e rest direction next decompose at state typed (decomposes p xs ys l r h) =
    led sig names next (with_equations (before ++ (argument_equations sig e p xs ys ++ rest)) st) h
    (other_equations sig names st before e rest (argument_equations sig e p xs ys) at (arguments_sides sig (names_of st) e p xs ys typed l r) state)
move_keeps sig names st before e rest direction next clash at state typed (clashes a h) = absurd (omega (arith, ap goes h))
move_keeps sig names st before e rest direction next join at state typed (joins low high order (inl k) a h) =
    led sig names next
    (after_step (joins_to high low (names_of st)) (with_equations (before ++ (entry_equations (entry_args (names_of st) low) (entry_args (names_of st) high) ++ rest)) st)) h
    (join_keeps sig names st before e rest low high at (joined_two (names_of st) direction e low high k.0 k.1 a) state)
move_keeps sig names st before e rest direction next join at state typed (joins low high order (inr k) a h) =
    led sig names next
    (after_step (joins_to high low (names_of st)) (with_equations (before ++ (entry_equations (entry_args (names_of st) low) (entry_args (names_of st) high) ++ rest)) st)) h
    (join_keeps sig names st before e rest low high at (turned (joined_two (names_of st) direction e high low k.0 k.1 a)) state)
move_keeps sig names st before e rest direction next meet at state typed (meets m vs ws decl l r declared a h) =
    led sig names next (after_step (becomes_new m decl (common_arguments vs ws) (names_of st)) st) h
    (new_keeps sig names st m decl (common_arguments vs ws) declared state)
move_keeps sig names st before e rest direction next prune at state typed (prunes m n vs keeps decl l a found declared h) =
    led sig names next (after_step (becomes_new n decl keeps (names_of st)) st) h (new_keeps sig names st n decl keeps declared state)
move_keeps sig names st before e rest direction next bind at state typed (binds m vs l a h) =
    let bound_by : CanBind (meta m vs) (named_second direction e) = subst (λ s. CanBind s (named_second direction e)) l a in
    led sig names next (after_step (becomes m (over_parameters vs (named_second direction e)) (names_of st)) st) h
    (bind_keeps sig names st e.locals typed.0 m vs (named_second direction e)
    (subst (IsScheme sig (names_of st) e.locals typed.0) l (first_typed sig (names_of st) direction e typed)) (second_typed sig (names_of st) direction e typed)
    bound_by.2 state)

pub turn_keeps_state : TurnKeepsState
turn_keeps_state sig names st next fits state turn =
    move_keeps sig names st turn.before turn.e turn.rest turn.direction next turn.row turn.at state
    (all_middle (AreSides sig (names_of st)) turn.before turn.rest turn.e (subst (AllByRecursion (AreSides sig (names_of st))) turn.at state.sides)) turn.moves
