-- No fault stands at a line of a valid text.
use Rattle.std.proofs.Common.{◌≡◌, ◌<◌, ℕ, ◌+◌, List, [], ◌∷◌, ◌++◌, refl, ap, ◌∙◌, sym, subst, Some, None, inl, inr, arith, get_or, append_assoc, IsTrue}
use Rattle.std.specs.List.{AllByRecursion, AllZip}
use Rattle.binding_terms.proofs.Lists.{all_contained, append_empty_back, cons_head, cons_tail}
use Rattle.proof_lexer.proofs.UniqueLemmas.{tokens_unique}
use Rattle.sy_base.specs.declared.fault.Code.{Code}
use Rattle.rule_schemes.specs.Derivation.{Derivation}
use Rattle.rule_schemes.specs.Reading.{Token}
use Rattle.rule_schemes.specs.Rules.{Theory, IsSystemSoFar}
use Rattle.derivation_text.specs.Bare.{HasNoContexts}
use Rattle.derivation_text.specs.Fault.{names_from, arguments_from, cited_names, ReadForm, line_forms, IsReadingFault, too_long, no_reading, ambiguous, MayStand, SaysHere, IsFaultOf, unexpected, ends_too_soon, name_taken, reading, no_rule, no_name, bad_step}
use Rattle.derivation_text.specs.Forms.{CONTEXT, APPLY, GIVES, Argument, by_name, enclosed, IsArgument, Written, context_line, node_line, apply_line, gives_line, IsWellWritten, line_tokens, further_arguments, arguments_tokens, on_tokens, is_own_name, Says}
use Rattle.derivation_text.specs.Laws.{ValidLinesHaveNoFault}
use Rattle.derivation_text.specs.Lines.{Line, text_lines}
use Rattle.derivation_text.specs.Valid.{Around, nothing_around, ReadsAlone, tree_named, rule_named, NamesTree, Last, no_last, applied, given_out, IsKnown, IsKnownArgument, IsLast, Contents, AreValid}
use Rattle.derivation_text.specs.declared.derivs.Named.{Named}
use Rattle.derivation_text.proofs.EndingLemmas.{argument_once, words_apart, word_text}
use Rattle.derivation_text.proofs.LineLemmas.{says_parts}
use Rattle.derivation_text.proofs.NodeLemmas.{parts_once}
use Rattle.derivation_text.proofs.OnlyOne.{names_tokens_once, no_argument}
use Rattle.derivation_text.proofs.ReaderLemmas.{not_own, names_once, names_not_last, lines_of, lines_of_text}

-- ---- what a line says, it says alone

context_apart : CONTEXT ≡ APPLY → ⊥
context_apart e = (let n : ◌≡◌ {A = ℕ} 99 97 = ap (λ (w : List ℕ). get_or w 0 0) e in absurd (omega (arith, n)))

context_given : CONTEXT ≡ GIVES → ⊥
context_given e = (let n : ◌≡◌ {A = ℕ} 99 103 = ap (λ (w : List ℕ). get_or w 0 0) e in absurd (omega (arith, n)))

own_apart : {w v : List ℕ} → IsTrue (is_own_name w) → w ≡ v → IsTrue (is_own_name v)
own_apart own e = subst (λ (w : List ℕ). IsTrue (is_own_name w)) e own

further_apart : (xs ys : List Argument) → AllByRecursion IsArgument xs → AllByRecursion IsArgument ys → further_arguments xs ≡ further_arguments ys → xs ≡ ys
further_apart [] [] h k e = refl
further_apart [] (y ∷ ys) h k e = absurd (cc)
further_apart (x ∷ xs) [] h k e = absurd (cc)
further_apart (x ∷ xs) (y ∷ ys) h k e =
    let once = argument_once x y (further_arguments xs) (further_arguments ys) h.0 k.0 (cons_tail e) in
    let rest = further_apart xs ys h.1 k.1 once.1 in
    λ i. once.0 i ∷ rest i

arguments_apart : (xs ys : List Argument) → AllByRecursion IsArgument xs → AllByRecursion IsArgument ys → arguments_tokens xs ≡ arguments_tokens ys → xs ≡ ys
arguments_apart [] [] h k e = refl
arguments_apart [] (y ∷ ys) h k e = absurd (no_argument y (further_arguments ys) e)
arguments_apart (x ∷ xs) [] h k e = absurd (no_argument x (further_arguments xs) (sym e))
arguments_apart (x ∷ xs) (y ∷ ys) h k e =
    let once = argument_once x y (further_arguments xs) (further_arguments ys) h.0 k.0 e in
    let rest = further_apart xs ys h.1 k.1 once.1 in
    λ i. once.0 i ∷ rest i

on_once : (ws vs : List (List ℕ)) → on_tokens ws ≡ on_tokens vs → ws ≡ vs
on_once [] [] e = refl
on_once [] (v ∷ vs) e = absurd (cc)
on_once (w ∷ ws) [] e = absurd (cc)
on_once (w ∷ ws) (v ∷ vs) e = names_tokens_once (w ∷ ws) (v ∷ vs) (cons_tail e)

line_once : (a b : Written) → IsWellWritten a → IsWellWritten b → line_tokens a ≡ line_tokens b → a ≡ b
line_once (context_line f) (context_line g) p q e = ap context_line (cons_tail e)
line_once (context_line f) (node_line n g r cs) p q e = absurd (not_own CONTEXT refl (own_apart q.0 (sym (word_text (cons_head e)))))
line_once (context_line f) (apply_line as_is) p q e = absurd (context_apart (word_text (cons_head e)))
line_once (context_line f) (gives_line ws) p q e = absurd (context_given (word_text (cons_head e)))
line_once (node_line n f r cs) (context_line g) p q e = absurd (not_own CONTEXT refl (own_apart p.0 (word_text (cons_head e))))
line_once (node_line n f r cs) (node_line m g q_rule ds) p q e =
    let once = parts_once (says_parts (line_tokens (node_line n f r cs)) n f r cs (record { tokens_are = refl; well_written = p }))
    (says_parts (line_tokens (node_line n f r cs)) m g q_rule ds (record { tokens_are = e; well_written = q })) in
    let cited = on_once cs ds once.3 in
    λ i. node_line (once.0 i) (once.1 i) (once.2 i) (cited i)
line_once (node_line n f r cs) (apply_line as_is) p q e = absurd (not_own APPLY refl (own_apart p.0 (word_text (cons_head e))))
line_once (node_line n f r cs) (gives_line ws) p q e = absurd (not_own GIVES refl (own_apart p.0 (word_text (cons_head e))))
line_once (apply_line as_is) (context_line g) p q e = absurd (context_apart (sym (word_text (cons_head e))))
line_once (apply_line as_is) (node_line m g r cs) p q e = absurd (not_own APPLY refl (own_apart q.0 (sym (word_text (cons_head e)))))
line_once (apply_line as_is) (apply_line bs) p q e = ap apply_line (arguments_apart as_is bs p q (cons_tail e))
line_once (apply_line as_is) (gives_line ws) p q e = absurd (words_apart (word_text (cons_head e)))
line_once (gives_line ws) (context_line g) p q e = absurd (context_given (sym (word_text (cons_head e))))
line_once (gives_line ws) (node_line m g r cs) p q e = absurd (not_own GIVES refl (own_apart q.0 (sym (word_text (cons_head e)))))
line_once (gives_line ws) (apply_line bs) p q e = absurd (words_apart (sym (word_text (cons_head e))))
line_once (gives_line ws) (gives_line vs) p q e = ap gives_line (names_tokens_once ws vs (cons_tail e))

-- ---- what is true of a valid line

names_known : (known : List Named) (at : ℕ) (ws : List (List ℕ)) → AllByRecursion (IsKnown known) ws → AllByRecursion (λ (p : ℕ × List ℕ). IsKnown known p.1) (names_from at ws)
names_known known at [] all = tt
names_known known at (w ∷ ws) all = (all.0, names_known known (at + 2) ws all.1)

arguments_known : (known : List Named) (at : ℕ) (xs : List Argument) → AllByRecursion (IsKnownArgument known) xs → AllByRecursion (λ (p : ℕ × List ℕ). IsKnown known p.1) (arguments_from at xs)
arguments_known known at [] all = tt
arguments_known known at (by_name w ∷ xs) all = (all.0, arguments_known known (at + 2) xs all.1)
arguments_known known at (enclosed form ∷ xs) all = arguments_known known _ xs all.1

trees_known : (known : List Named) (ws : List (List ℕ)) (ds : List Derivation) → AllZip (λ w d. tree_named known w ≡ Some d) ws ds → AllByRecursion (IsKnown known) ws
trees_known known [] ds h = tt
trees_known known (w ∷ ws) [] h = absurd h
trees_known known (w ∷ ws) (d ∷ ds) h = (λ none. (let clash : None ≡ Some d = sym none ∙ h.0 in cc), trees_known known ws ds h.1)

module _ (th : Theory) where
  -- no code stands at a form
  abbrev IsRightForm : ReadForm → Type 0
  IsRightForm read = (found : Code) (detail : List ℕ) → IsReadingFault th read found detail → ⊥

  alone_right : (read : ReadForm) (number : ℕ) (said : _) → ReadsAlone th read.over read.wants read.form number said → IsRightForm read
  alone_right read number said alone found detail (too_long f d long) = absurd (omega (arith, long, alone.within))
  alone_right read number said alone found detail (no_reading f d none) = none _ alone.reading.reads
  alone_right read number said alone found detail (ambiguous one two f d firsts) =
      firsts.1.new.0 (alone.reading.no_other _ firsts.0.reads ∙ sym (alone.reading.no_other _ firsts.1.reads))

  -- a node has a new name, its rule is there, and it makes a tree
  abbrev IsRightNode : List Named → List Token → Written → Type 0
  IsRightNode known tokens (node_line name form rule cited) =
      (tree_named known name ≡ None) × (rule_named th.rules rule ≡ None → ⊥) × ((one : Named) × NamesTree th nothing_around known tokens one)
  IsRightNode known tokens _ = Unit {0}

  record IsRight (known : List Named) (tokens : List Token) (line : Written) : Type 0 where
    says : Says tokens line
    stands : (front : List Line) → MayStand front no_last line
    forms : AllByRecursion IsRightForm (line_forms th nothing_around line)
    names : AllByRecursion (λ (p : ℕ × List ℕ). IsKnown known p.1) (cited_names line)
    is_node : IsRightNode known tokens line

  node_right : (known : List Named) (tokens : List Token) (one : Named) (h : NamesTree th nothing_around known tokens one) → IsRight known tokens (node_line one.name h.form h.rule h.cited)
  node_right known tokens one h =
      record {
        says = h.says;
        stands = λ front. tt;
        forms = (alone_right _ 0 _ h.valid.reads, tt);
        names = names_known known _ h.cited (trees_known known h.cited h.valid.trees h.valid.earlier);
        is_node = (h.valid.new, λ none. (let clash : None ≡ Some h.valid.number = sym none ∙ h.valid.rule_is in cc), (one, h));
      }

  last_right : (known : List Named) (tokens : List Token) (last : Last) → IsLast known tokens last → (line : Written) × IsRight known tokens line
  last_right known tokens no_last h = absurd h
  last_right known tokens (applied args) h =
      (apply_line args, record { says = h.0; stands = λ front. tt; forms = tt; names = arguments_known known 1 args h.1; is_node = tt })
  last_right known tokens (given_out ws) h =
      (gives_line ws, record { says = h.0; stands = λ front. tt; forms = tt; names = names_known known 1 ws h.1; is_node = tt })

  module _ (front : List Line) (c : Contents) (open_yet : c.last ≡ no_last) (tokens : List Token) (line : Written) (right : IsRight c.named tokens line) where
    says_here : SaysHere front c.last tokens line
    says_here = record { may_stand = subst (λ (l : Last). MayStand front l line) (sym open_yet) (right.stands front); says = right.says }

    right_as : (other : Written) → SaysHere front c.last tokens other → IsRight c.named tokens other
    right_as other h =
        subst (IsRight c.named tokens)
        (line_once line other right.says.well_written h.says.well_written (sym right.says.tokens_are ∙ h.says.tokens_are)) right

    right_has_none : (found : Code) (at : ℕ) (detail : List ℕ) → IsFaultOf th front nothing_around c tokens found at detail → ⊥
    right_has_none found at detail (unexpected before rest token f a d split stops) =
        stops.stops
        (record {
          more = rest;
          line = line;
          says =
              record {
                may_stand = says_here.may_stand;
                says = subst (λ (ts : List Token). Says ts line) (split ∙ sym (append_assoc before (token ∷ []) rest)) right.says;
              };
        })
    right_has_none found at detail (ends_too_soon f a d goes none) = none line says_here
    right_has_none found at detail (name_taken name form rule cited f a d says taken) = taken (right_as (node_line name form rule cited) says).is_node.0
    right_has_none found at detail (reading other read a says contains fault) =
        all_contained IsRightForm (line_forms th nothing_around other) read (right_as other says).forms contains found detail fault
    right_has_none found at detail (no_rule name form rule cited f a d says none) = (right_as (node_line name form rule cited) says).is_node.1 none
    right_has_none found at detail (no_name other name f d says contains unknown) =
        unknown (all_contained (λ (p : ℕ × List ℕ). IsKnown c.named p.1) (cited_names other) (at, name) (right_as other says).names contains)
    right_has_none found at detail (bad_step name form rule cited f a d says none) =
        (let is_node = (right_as (node_line name form rule cited) says).is_node in none is_node.2.0 is_node.2.1)

-- ---- a line of valid lines

module _ (th : Theory) (bare : HasNoContexts th) (so_far : IsSystemSoFar th) where
  -- behind a front of the lines that is valid by itself the next line is right
  next_right : (front : List Line) (line : Line) (rest : List Line) (known : List Named) (c d : Contents) → AreValid th nothing_around known (front ++ line ∷ rest) c
      → AreValid th nothing_around known front d → (d.last ≡ no_last) × ((says : Written) × IsRight th d.named line.1 says)
  next_right [] line rest known c d (inl h) k =
      (k.1, subst (λ (ks : List Named). (says : Written) × IsRight th ks line.1 says) (sym k.0) (_, node_right th known line.1 h.0 h.1))
  next_right [] line rest known c d (inr h) k =
      (k.1, subst (λ (ks : List Named). (says : Written) × IsRight th ks line.1 says) (sym k.0) (last_right th known line.1 c.last h.0))
  next_right (l ∷ ls) line rest known c d (inl h) (inl k) =
      next_right ls line rest (known ++ h.0 ∷ []) c d h.2
      (subst (λ (one : Named). AreValid th nothing_around (known ++ one ∷ []) ls d) (names_once th bare so_far known l.1 k.0 h.0 k.1 h.1) k.2)
  next_right (l ∷ ls) line rest known c d (inl h) (inr k) = absurd (names_not_last th known l.1 h.0 d.last h.1 k.0)
  next_right (l ∷ ls) line rest known c d (inr h) k = absurd (let none : line ∷ rest ≡ [] = append_empty_back ls (line ∷ rest) h.1 in cc)

pub no_line_fault : ValidLinesHaveNoFault
no_line_fault th source tokens around c so_far bare are text found spot detail fault =
    let whole = lines_of_text th bare tokens_unique source tokens around c are text in
    let front = lines_of th bare fault.front fault.behind.valid.rest fault.around fault.contents fault.behind.valid.begins fault.behind.valid.valid in
    let next = next_right th bare so_far fault.front (spot.line, fault.tokens) fault.behind.rest [] c fault.contents
    (subst (λ (ls : List Line). AreValid th nothing_around [] ls c) fault.behind.split whole.1) front.1 in
    right_has_none th fault.front fault.contents next.0 fault.tokens next.1.0 next.1.1 found spot.at detail
    (subst (λ (a : Around). IsFaultOf th fault.front a fault.contents fault.tokens found spot.at detail) front.0 fault.fault)
