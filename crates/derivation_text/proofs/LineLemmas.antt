-- A line with a judgment, from its parts and what these make.
use Rattle.std.proofs.Common.{◌≡◌, ℕ, List, ◌∷◌, ◌++◌, refl, ap, ◌∙◌, sym, subst, Some, None, codes}
use Rattle.std.specs.Prelude.{Option, MatchOption, Result, Ok, Err, IfOk, ◌+◌}
use Rattle.rule_schemes.specs.Said.{Said, a_judgment}
use Rattle.rule_schemes.specs.Rules.{Theory, JudgmentValue, JudgmentScheme, IsJudgment}
use Rattle.rule_schemes.specs.Derivation.{Derivation}
use Rattle.rule_schemes.specs.Reading.{Token, word}
use Rattle.rule_schemes.specs.AtValue.{judgment_at}
use Rattle.derivation_text.specs.Bare.{HasNoContexts}
use Rattle.derivation_text.specs.Forms.{Says, node_line, AreNames, on_tokens, colon}
use Rattle.derivation_text.specs.Valid.{NamesTree, MakesTree, nothing_around, tree_named, rule_named, IsMade}
use Rattle.derivation_text.specs.Found.{HasParts, IsPartsTree, HasNoPartsTree, HasNoNamedTree, HasValue, HasNoJudgment, ReadsJudgment, cited_trees}
use Rattle.derivation_text.specs.Making.{HasNoTree}
use Rattle.derivation_text.specs.declared.derivs.Named.{Named}
use Rattle.derivation_text.proofs.NodeLemmas.{parts_once}
use Rattle.derivation_text.proofs.CitedLemmas.{cited_from, cited_to}
use Rattle.derivation_text.proofs.FormLemmas.{reads_closed}
use Rattle.binding_terms.proofs.Lists.{some_once}

-- the judgment of a line is one
pub value_judged : (th : Theory) → HasNoContexts th → (ts : List Token) (v : JudgmentValue) → HasValue th ts v → IsJudgment th v
value_judged th bare ts v h = subst (IsJudgment th) (sym h.value) (reads_closed th bare ts h.scheme h.reads).judged

pub names_tree : (th : Theory) (known : List Named) (ts : List Token) (name : List ℕ) (form : List Token) (r : List ℕ) (rest : List Token) (tree : Derivation) (label : List ℕ)
    → HasParts ts name form r rest → tree_named known name ≡ None → IsPartsTree th known form r rest tree → label ≡ name → NamesTree th nothing_around known ts (record { name = label; tree = tree })
names_tree th known ts name form r rest tree label parts new makes e =
    let cites = cited_from known rest makes.trees makes.cited in
    subst (λ (l : List ℕ). NamesTree th nothing_around known ts (record { name = l; tree = tree })) (sym e)
    (record {
      form = form;
      rule = r;
      cited = cites.names;
      says =
          record {
            tokens_are = parts.tokens_are ∙ ap (λ (x : List Token). word name ∷ (colon ∷ (form ++ (word (codes "by") ∷ (word (codes "rule") ∷ (word r ∷ x)))))) cites.tokens_are;
            well_written = (parts.own, parts.form_is, parts.rule_is, cites.are_names);
          };
      valid =
          record {
            new = new;
            scheme = makes.has_value.scheme;
            reads = makes.has_value.reads;
            number = makes.number;
            rule_is = makes.rule_is;
            trees = makes.trees;
            earlier = cites.trees;
            makes = subst (λ (v : JudgmentValue). IsMade th makes.number v makes.trees tree) makes.has_value.value makes.makes;
          };
    })

pub says_parts : (ts : List Token) (name : List ℕ) (form : List Token) (r : List ℕ) (cited : List (List ℕ)) → Says ts (node_line name form r cited) → HasParts ts name form r (on_tokens cited)
says_parts ts name form r cited says =
    record { tokens_are = says.tokens_are; own = says.well_written.0; form_is = says.well_written.1; rule_is = says.well_written.2 }

pub parts_tree : (th : Theory) (known : List Named) (name : List ℕ) (form : List Token) (r : List ℕ) (cited : List (List ℕ)) (tree : Derivation) → AreNames cited
    → MakesTree th nothing_around known name form r cited tree → IsPartsTree th known form r (on_tokens cited) tree
parts_tree th known name form r cited tree names makes =
    record {
      value = judgment_at nothing_around.value makes.scheme;
      has_value = record { scheme = makes.scheme; reads = makes.reads; value = refl };
      number = makes.number;
      rule_is = makes.rule_is;
      trees = makes.trees;
      cited = cited_to known cited makes.trees names makes.earlier;
      makes = makes.makes;
    }

pub no_tree_named : (th : Theory) (known : List Named) (ts : List Token) (name : List ℕ) (form : List Token) (r : List ℕ) (rest : List Token) → HasParts ts name form r rest
    → HasNoPartsTree th known form r rest → HasNoNamedTree th known ts
no_tree_named th known ts name form r rest parts none one h =
    let once = parts_once (says_parts ts one.name h.form h.rule h.cited h.says) parts in
    let tree = parts_tree th known one.name h.form h.rule h.cited one.tree h.says.well_written.3 h.valid in
    none one.tree
    (subst (λ (x : List Token). IsPartsTree th known x r rest one.tree) once.1
    (subst (λ (x : List ℕ). IsPartsTree th known h.form x rest one.tree) once.2
    (subst (λ (x : List Token). IsPartsTree th known h.form h.rule x one.tree) once.3 tree)))

pub answer_map : {A E : Type 0} {P P2 : Type 0} {Q Q2 : A → Type 0} (r : Result (Option A) E) → (P → P2) → ((a : A) → Q a → Q2 a)
    → IfOk r (λ found. MatchOption found P Q) → IfOk r (λ found. MatchOption found P2 Q2)
answer_map (Ok None) f g h = f h
answer_map (Ok (Some a)) f g h = g a h
answer_map (Err e) f g h = tt

pub scheme_once : (th : Theory) (ts : List Token) (s t : JudgmentScheme) → ReadsJudgment th ts s → ReadsJudgment th ts t → s ≡ t
scheme_once th ts s t a b =
    let same = b.reading.no_other _ a.reading.reads in
    let said : a_judgment s ≡ a_judgment t = ap (λ (x : ℕ × Said). x.1.written) same in
    cc

pub value_once : (th : Theory) (ts : List Token) (v w : JudgmentValue) → HasValue th ts v → HasValue th ts w → v ≡ w
value_once th ts v w a b = a.value ∙ ap (judgment_at nothing_around.value) (scheme_once th ts a.scheme b.scheme a.reads b.reads) ∙ sym b.value

pub no_parts_tree : (th : Theory) (known : List Named) (form : List Token) (r : List ℕ) (rest : List Token) (number : ℕ) (v : JudgmentValue) (ds : List Derivation) → HasValue th form v
    → rule_named th.rules r ≡ Some number → cited_trees known rest ≡ Some ds → HasNoTree th number v ds → HasNoPartsTree th known form r rest
no_parts_tree th known form r rest number v ds value rule cited none tree h =
    none tree
    (subst (λ (n : ℕ). IsMade th n v ds tree) (some_once h.rule_is rule)
    (subst (λ (w : JudgmentValue). IsMade th h.number w ds tree) (value_once th form h.value v h.has_value value)
    (subst (λ (x : List Derivation). IsMade th h.number h.value x tree) (some_once h.cited cited) h.makes)))

pub no_judgment_tree : (th : Theory) (known : List Named) (form : List Token) (r : List ℕ) (rest : List Token) → HasNoJudgment th form → HasNoPartsTree th known form r rest
no_judgment_tree th known form r rest none tree h = none h.has_value.scheme h.has_value.reads
