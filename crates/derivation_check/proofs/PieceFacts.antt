-- What pieces that match ask of metavariables, and that it types their values.
use Rattle.std.proofs.Common.{◌≡◌, ℕ, ◌+◌, List, [], ◌∷◌, ◌++◌, length, drop, Some, slice_get, inl, inr, refl, ap, ◌∙◌, sym, subst, append_assoc, length-append, arith}
use Rattle.std.specs.Prelude.{MatchOption}
use Rattle.std.specs.List.{AllByRecursion}
use Rattle.binding_terms.specs.Numbered.{AnyByRecursion}
use Rattle.binding_terms.specs.Tree as terms
use Rattle.binding_terms.specs.Tree.{Tree, var, Args, no_args, arg}
use Rattle.binding_terms.specs.Signature.{Signature, Place, slots, binders, Fits, IsContext}
use Rattle.binding_terms.specs.Scope.{bound, IsTerm, AreParts}
use Rattle.binding_terms.proofs.Lists.{all_append, any_front, any_back, match_same}
use Rattle.scheme_terms.specs.SchemeTree.{SchemeTree, meta, known, local, con, Values, no_values, value, Parts, no_parts, part, StrictIn, StrictInParts, AreDistinctLocals}
use Rattle.scheme_terms.specs.Forms.{SchemeEntry, GroundEntry, Names, Instance}
use Rattle.scheme_terms.specs.Context.{AreArguments, IsEntry, AreEntries, scope_after, variables}
use Rattle.scheme_terms.specs.Instance.{instance_of, value_of}
use Rattle.scheme_terms.specs.SchemeScope.{IsScheme, AreSchemes, AreSchemeParts, AreSchemeEntries, entry_variables, params_scope}
use Rattle.scheme_terms.specs.Substituting.{LocalsBelow, PartsBelow}
use Rattle.scheme_terms.specs.Embedding.{embedded, embedded_args}
use Rattle.scheme_terms.specs.Demands.{numbers, lowered, Demands, PartsDemand}
use Rattle.scheme_terms.specs.declared.scheme.MetaDecl.{MetaDecl}
use Rattle.scheme_terms.proofs.Makings.{instance_making, demand_is_value}
use Rattle.scheme_terms.proofs.SchemeFacts.{scheme_below, length_bound}
use Rattle.scheme_terms.proofs.Values.{entry_adds_one}
use Rattle.scheme_match.proofs.Lists.{one_typed}
use Rattle.rule_schemes.specs.Rules.{StrictInEntries}
use Rattle.rule_schemes.specs.Statement.{StatementInput}
use Rattle.derivation_check.specs.Fitting.{Piece, Matches, PartsMatch, AreSettled, ValuesSettled, IsSettled, PieceMatches, arg_pieces, entry_pieces, EntriesAlike}
use Rattle.derivation_check.specs.Settling.{PiecesDemand}

-- distinct locals hold no metavariable
locals_settled : (inputs : List StatementInput) (vs : Values) → AreDistinctLocals vs → ValuesSettled inputs vs
locals_settled inputs no_values h = tt
locals_settled inputs (value (local i) vs) h = (tt, locals_settled inputs vs h.1)
locals_settled inputs (value (meta m ws) vs) h = absurd h
locals_settled inputs (value (known k) vs) h = absurd h
locals_settled inputs (value (con p xs) vs) h = absurd h

-- what is known of a piece: its scheme and its term are of one category, in scopes that go together
pub record IsTyped (sig : Signature) (names : Names) (beyond : List ℕ) (p : Piece) : Type 0 where
  pub ls : List ℕ
  pub long : length ls ≡ p.locals
  pub outer : List ℕ
  pub wide : (i c : ℕ) → slice_get outer i ≡ Some c → slice_get beyond i ≡ Some c
  pub cat : ℕ
  pub pattern : IsScheme sig names ls cat p.pattern
  pub target : IsTerm sig (ls ++ outer) cat p.target

module _ (inputs : List StatementInput) (inst : Instance) (m : ℕ) (is_settled : IsSettled inputs m) where
  settled_here : (n : ℕ) (vs : Values) → n ≡ m → AreDistinctLocals vs → AreSettled inputs (meta n vs)
  settled_here n vs e distinct = (subst (IsSettled inputs) (sym e) is_settled, locals_settled inputs vs distinct)

  mutual
    value_matched : (d : ℕ) (s : SchemeTree) (t : Tree) (v : SchemeTree) → LocalsBelow d s → Matches inputs inst d s t → Demands m d s (embedded t) v → embedded (value_of inst m) ≡ v
    value_matched d (meta n vs) t v below match asked =
        demand_is_value (instance_making inst) m d (meta n vs) (embedded t) v below (ap embedded (match (settled_here n vs asked.0 asked.1))) asked
    value_matched d (known k) t v below match asked = absurd asked
    value_matched d (local i) t v below match asked = absurd asked
    value_matched d (con p xs) (var i) v below match asked = absurd match
    value_matched d (con p xs) (terms.con q ys) v below match asked = parts_matched d xs ys v below match.1 asked.1

    parts_matched : (d : ℕ) (xs : Parts) (ys : Args) (v : SchemeTree) → PartsBelow d xs → PartsMatch inputs inst d xs ys → PartsDemand m d xs (embedded_args ys) v → embedded (value_of inst m) ≡ v
    parts_matched d no_parts no_args v below match asked = absurd asked
    parts_matched d no_parts (arg b t ys) v below match asked = absurd asked
    parts_matched d (part a s xs) no_args v below match asked = absurd asked
    parts_matched d (part a s xs) (arg b t ys) v below match (inl asked) = value_matched (d + a) s t v below.0 match.0.1 asked.1
    parts_matched d (part a s xs) (arg b t ys) v below match (inr asked) = parts_matched d xs ys v below.1 match.1 asked

  mutual
    strict_matched : (d : ℕ) (s : SchemeTree) (t : Tree) → Matches inputs inst d s t → StrictIn m s → (v : SchemeTree) × Demands m d s (embedded t) v
    strict_matched d (meta n vs) t match strict = (lowered (numbers vs) d (embedded t), (strict.0, strict.1, refl))
    strict_matched d (known k) t match strict = absurd strict
    strict_matched d (local i) t match strict = absurd strict
    strict_matched d (con p xs) (var i) match strict = absurd match
    strict_matched d (con p xs) (terms.con q ys) match strict = let found = strict_parts d xs ys match.1 strict in (found.0, (match.0, found.1))

    strict_parts : (d : ℕ) (xs : Parts) (ys : Args) → PartsMatch inputs inst d xs ys → StrictInParts m xs → (v : SchemeTree) × PartsDemand m d xs (embedded_args ys) v
    strict_parts d no_parts ys match strict = absurd strict
    strict_parts d (part a s xs) no_args match strict = absurd match
    strict_parts d (part a s xs) (arg b t ys) match (inl strict) = let found = strict_matched (d + a) s t match.0.1 strict in (found.0, inl (match.0.0, found.1))
    strict_parts d (part a s xs) (arg b t ys) match (inr strict) = let found = strict_parts d xs ys match.1 strict in (found.0, inr found.1)

  module _ (sig : Signature) (names : Names) (outer beyond : List ℕ) (wide : (i c : ℕ) → slice_get outer i ≡ Some c → slice_get beyond i ≡ Some c) (decl : MetaDecl)
      (named : slice_get names.metas m ≡ Some decl) where
    mutual
      typed_matched : (ls : List ℕ) (d c : ℕ) (s : SchemeTree) (t : Tree) → length ls ≡ d → IsScheme sig names ls c s → IsTerm sig (ls ++ outer) c t → Matches inputs inst d s t → StrictIn m s →
          IsTerm sig (params_scope decl ++ beyond) decl.cat.0 (value_of inst m)
      typed_matched ls d c (meta n vs) t long is term match strict =
          one_typed outer beyond wide sig names inst m decl named ls c (meta n vs) t is term
          (ap (λ k. instance_of inst k (meta n vs)) long ∙ match (settled_here n vs strict.0 strict.1)) strict
      typed_matched ls d c (known k) t long is term match strict = absurd strict
      typed_matched ls d c (local i) t long is term match strict = absurd strict
      typed_matched ls d c (con p xs) (var i) long is term match strict = absurd match
      typed_matched ls d c (con p xs) (terms.con q ys) long is term match strict =
          let here = subst (λ k. MatchOption (slice_get sig.prods k) ⊥ (λ prod. (prod.cat.0 ≡ c) × AreParts sig (ls ++ outer) (binders prod.items) (slots prod.items) ys)) (sym match.0) term in
          let both = match_same (slice_get sig.prods p) is here in
          typed_parts ls d (binders both.0.items) (slots both.0.items) xs ys long both.1.1 both.2.1 match.1 strict

      typed_parts : (ls : List ℕ) (d : ℕ) (bs : List ℕ) (ss : List Place) (xs : Parts) (ys : Args) → length ls ≡ d → AreSchemeParts sig names ls bs ss xs → AreParts sig (ls ++ outer) bs ss ys →
          PartsMatch inputs inst d xs ys → StrictInParts m xs → IsTerm sig (params_scope decl ++ beyond) decl.cat.0 (value_of inst m)
      typed_parts ls d bs ss no_parts ys long is term match strict = absurd strict
      typed_parts ls d bs ss (part a s xs) no_args long is term match strict = absurd match
      typed_parts ls d bs [] (part a s xs) (arg b t ys) long is term match strict = absurd is
      typed_parts ls d bs (at ∷ ss) (part a s xs) (arg b t ys) long is term match (inl strict) =
          typed_matched (bound bs at.binds ++ ls) (d + a) at.cat s t (omega (arith, length-append (bound bs at.binds) ls, length_bound bs at.binds, is.0, long)) is.1
          (subst (λ sc. IsTerm sig sc at.cat t) (sym (append_assoc (bound bs at.binds) ls outer)) term.1) match.0.1 strict
      typed_parts ls d bs (at ∷ ss) (part a s xs) (arg b t ys) long is term match (inr strict) = typed_parts ls d bs ss xs ys long is.2 term.2 match.1 strict

  -- lists of pieces
  pub pieces_value : (sig : Signature) (names : Names) (beyond : List ℕ) (ps : List Piece) (v : SchemeTree) → AllByRecursion (IsTyped sig names beyond) ps → AllByRecursion (PieceMatches inputs inst) ps → PiecesDemand m ps v →
      embedded (value_of inst m) ≡ v
  pieces_value sig names beyond [] v typed match asked = absurd asked
  pieces_value sig names beyond (p ∷ ps) v typed match (inl asked) =
      value_matched p.locals p.pattern p.target v (subst (λ d. LocalsBelow d p.pattern) typed.0.long (scheme_below sig names typed.0.ls typed.0.cat p.pattern typed.0.pattern)) match.0 asked
  pieces_value sig names beyond (p ∷ ps) v typed match (inr asked) = pieces_value sig names beyond ps v typed.1 match.1 asked

  pub pieces_strict : (ps : List Piece) → AllByRecursion (PieceMatches inputs inst) ps → AnyByRecursion (λ p. StrictIn m p.pattern) ps → (v : SchemeTree) × PiecesDemand m ps v
  pieces_strict [] match strict = absurd strict
  pieces_strict (p ∷ ps) match (inl strict) = let found = strict_matched p.locals p.pattern p.target match.0 strict in (found.0, inl found.1)
  pieces_strict (p ∷ ps) match (inr strict) = let found = pieces_strict ps match.1 strict in (found.0, inr found.1)

  pub pieces_typed : (sig : Signature) (names : Names) (beyond : List ℕ) (decl : MetaDecl) → slice_get names.metas m ≡ Some decl → (ps : List Piece) → AllByRecursion (IsTyped sig names beyond) ps →
      AllByRecursion (PieceMatches inputs inst) ps → AnyByRecursion (λ p. StrictIn m p.pattern) ps → IsTerm sig (params_scope decl ++ beyond) decl.cat.0 (value_of inst m)
  pieces_typed sig names beyond decl named [] typed match strict = absurd strict
  pieces_typed sig names beyond decl named (p ∷ ps) typed match (inl strict) =
      typed_matched sig names typed.0.outer beyond typed.0.wide decl named typed.0.ls p.locals typed.0.cat p.pattern p.target typed.0.long typed.0.pattern typed.0.target match.0 strict
  pieces_typed sig names beyond decl named (p ∷ ps) typed match (inr strict) = pieces_typed sig names beyond decl named ps typed.1 match.1 strict

-- the pieces of arguments and entries
module _ (sig : Signature) (names : Names) (outer beyond : List ℕ) (wide : (i c : ℕ) → slice_get outer i ≡ Some c → slice_get beyond i ≡ Some c) where
  pub args_typed : (ls : List ℕ) (n : ℕ) (ss : List Place) (xs : List SchemeTree) (ts : List Tree) → length ls ≡ n → AreSchemes sig names ls ss xs → AreArguments sig (ls ++ outer) ss ts →
      AllByRecursion (IsTyped sig names beyond) (arg_pieces n xs ts)
  args_typed ls n [] [] ts long is terms = tt
  args_typed ls n [] (x ∷ xs) ts long is terms = absurd is
  args_typed ls n (s ∷ ss) [] ts long is terms = absurd is
  args_typed ls n (s ∷ ss) (x ∷ xs) [] long is terms = absurd terms
  args_typed ls n (s ∷ ss) (x ∷ xs) (t ∷ ts) long is terms =
      (record { ls = ls; long = long; outer = outer; wide = wide; cat = s.cat; pattern = is.0; target = terms.0 }, args_typed ls n ss xs ts long is.1 terms.1)

  -- the pieces of entries, and the scope that they leave
  pub record Entered (c : ℕ) (ls : List ℕ) (n : ℕ) (es : List SchemeEntry) (gs : List GroundEntry) : Type 0 where
    pub typed : AllByRecursion (IsTyped sig names beyond) (entry_pieces n es gs)
    pub scope : scope_after sig (ls ++ outer) gs ≡ entry_variables sig ls es ++ outer
    pub long : length (entry_variables sig ls es) ≡ n + length es

  pub entered : Fits sig → (c : ℕ) → IsContext sig c → (ls : List ℕ) (n : ℕ) (es : List SchemeEntry) (gs : List GroundEntry) → length ls ≡ n → AreSchemeEntries sig names ls c es →
      AreEntries sig c (ls ++ outer) gs → EntriesAlike es gs → Entered c ls n es gs
  entered fits c context ls n [] [] long is are alike = record { typed = tt; scope = refl; long = long ∙ (let e : n ≡ n + 0 = omega arith in e) }
  entered fits c context ls n [] (g ∷ gs) long is are alike = absurd alike
  entered fits c context ls n (e ∷ es) [] long is are alike = absurd alike
  entered fits c context ls n (e ∷ es) (g ∷ gs) long is are alike =
      let same = alike.0.0 in
      let here = subst (λ p. IsEntry sig c (ls ++ outer) (record { prod = p; args = g.args })) (sym same) are.0 in
      let one : length (variables sig e.prod) ≡ 1 = entry_adds_one sig fits c context (ls ++ outer) (record { prod = e.prod; args = g.args }) here in
      let both = match_same (slice_get sig.prods e.prod) is.0 here in
      let more : AreEntries sig c ((variables sig e.prod ++ ls) ++ outer) gs =
      subst (λ sc. AreEntries sig c sc gs) (sym (append_assoc (variables sig e.prod) ls outer)) (subst (λ p. AreEntries sig c (variables sig p ++ (ls ++ outer)) gs) (sym same) are.1) in
      let rest = entered fits c context (variables sig e.prod ++ ls) (n + 1) es gs (omega (arith, length-append (variables sig e.prod) ls, one, long)) is.1 more alike.1 in
      record {
        typed = all_append (IsTyped sig names beyond) (arg_pieces n e.args g.args) (entry_pieces (n + 1) es gs)
            (args_typed ls n (drop 1 (slots both.0.items)) e.args g.args long both.1.2 both.2.2) rest.typed;
        scope = ap (λ p. scope_after sig (variables sig p ++ (ls ++ outer)) gs) (sym same) ∙ ap (λ sc. scope_after sig sc gs) (sym (append_assoc (variables sig e.prod) ls outer)) ∙ rest.scope;
        long = rest.long ∙ (let k : n + 1 + length es ≡ n + length (e ∷ es) = omega arith in k);
      }

-- a strict occurrence in a form is one in a piece
pub args_strict : (m n : ℕ) (xs : List SchemeTree) (ts : List Tree) → length xs ≡ length ts → AnyByRecursion (StrictIn m) xs → AnyByRecursion (λ p. StrictIn m p.pattern) (arg_pieces n xs ts)
args_strict m n [] ts e h = absurd h
args_strict m n (x ∷ xs) [] e h = absurd (omega (arith, e))
args_strict m n (x ∷ xs) (t ∷ ts) e (inl here) = inl here
args_strict m n (x ∷ xs) (t ∷ ts) e (inr rest) = inr (args_strict m n xs ts (omega (arith, e)) rest)

pub entries_strict : (m n : ℕ) (es : List SchemeEntry) (gs : List GroundEntry) → EntriesAlike es gs → StrictInEntries m es → AnyByRecursion (λ p. StrictIn m p.pattern) (entry_pieces n es gs)
entries_strict m n [] gs alike h = absurd h
entries_strict m n (e ∷ es) [] alike h = absurd alike
entries_strict m n (e ∷ es) (g ∷ gs) alike (inl here) = any_front (λ p. StrictIn m p.pattern) (arg_pieces n e.args g.args) (entry_pieces (n + 1) es gs) (args_strict m n e.args g.args alike.0.1 here)
entries_strict m n (e ∷ es) (g ∷ gs) alike (inr rest) = any_back (λ p. StrictIn m p.pattern) (arg_pieces n e.args g.args) (entry_pieces (n + 1) es gs) (entries_strict m (n + 1) es gs alike.1 rest)
