-- What the functions over the forms of a rule have to say, over plain variables.
use Rattle.std.proofs.Common.{◌≡◌, suc, List, [], ◌∷◌, ◌++◌, map, refl, ap, ◌∙◌, sym, subst, Option, Some, None, MatchOption, append-nil, append_assoc}
use Rattle.std.specs.Prelude.{flat_map}
use Rattle.std.specs.List.{AllByRecursion, AllZip}
use Rattle.scheme_terms.specs.SchemeScope.{AreDifferentNames}
use Rattle.scheme_terms.specs.declared.scheme.MetaDecl.{MetaDecl}
use Rattle.rule_schemes.specs.Reading.{Token, ReadingScope}
use Rattle.rule_schemes.specs.Rules.{JudgmentScheme, Rule, Theory}
use Rattle.rule_schemes.specs.Said.{want_judgment}
use Rattle.rule_schemes.specs.View.{rule as plain_rule, judgment_scheme}
use Rattle.rule_schemes.specs.declared.rule.Judgment.{Judgment}
use Rattle.rule_schemes.specs.declared.rule.RuleScheme.{RuleScheme}
use Rattle.term_reader.specs.Names.{NamesApart}
use Rattle.notation_parser.specs.Plain.{IsPlain}
use Rattle.judgments.specs.Bare.{IsBareJudgment, IsBareTheory}
use Rattle.judgments.specs.Collected.{AreGathered, AreCollected}
use Rattle.judgments.specs.Standing.{AreReadOf, AreUnreadOf}
use Rattle.judgments.specs.Texts.{RuleText, rule_forms}
use Rattle.judgments.specs.Theory.{IsBlockRule}
use Rattle.judgments.specs.Written.{settled, ReadsOnlyAs}
use Rattle.judgments.proofs.KeptNames.{names_each}
use Rattle.judgments.proofs.OneRule.{rule_says, forms_moved, as_gathered, sorted_gathered, rule_found}
use Rattle.judgments.proofs.RuleLemmas.{closed_names, bare_names, one_reading}
use Rattle.judgments.proofs.WordsOfForms.{joined}
use Rattle.binding_terms.proofs.Lists.{all_map}

names_apart : (metas : List MetaDecl) → AreDifferentNames (map (λ (m : MetaDecl). m.name) metas) → NamesApart metas
names_apart [] h = tt
names_apart (m ∷ metas) h = (names_each m.name metas h.0, names_apart metas h.1)

-- names without parameters make a scope in which forms are read
pub plain_over : (th : Theory) (metas : List MetaDecl) (scope : ReadingScope) → IsBareTheory th → AreDifferentNames (map (λ (m : MetaDecl). m.name) metas)
    → AllByRecursion (λ (m : MetaDecl). m.params ≡ []) metas → scope ≡ settled (closed_names metas) → IsPlain th.sig th.judgments scope want_judgment
plain_over th metas scope bare differ plain e =
    subst (λ (s : ReadingScope). IsPlain th.sig th.judgments s want_judgment) (sym e)
    (record {
      nothing_binds = record { variables = (bare.sig).variables; names = names_apart metas differ; parameters = plain };
      judgments = all_map IsBareJudgment (λ (j : Judgment). j.ctx ≡ None) (λ j b. b.no_context) th.judgments bare.judgments;
      knowns = refl;
      vars = refl;
      fresh = refl;
      no_context = tt;
    })

-- what is collected makes one
pub plain_scope : (th : Theory) (ts : List Token) (metas : List MetaDecl) (scope : ReadingScope) → IsBareTheory th → AreCollected th.sig.cats ts metas → scope ≡ settled (closed_names metas)
    → IsPlain th.sig th.judgments scope want_judgment
plain_scope th ts metas scope bare h e = plain_over th metas scope bare h.differ (bare_names th.sig.cats ts metas h.each) e

-- what is gathered makes one
pub plain_settled : (th : Theory) (ts : List Token) (metas : List MetaDecl) → IsBareTheory th → AreGathered th.sig.cats ts metas → IsPlain th.sig th.judgments (settled (closed_names metas)) want_judgment
plain_settled th ts metas bare h = plain_over th metas (settled (closed_names metas)) bare h.differ (bare_names th.sig.cats ts metas h.each) refl

pub joined_forms : {X : Type 0} (f : X → List Token) (xs : List X) (last : List Token) → joined (map f xs ++ last ∷ []) ≡ flat_map f xs ++ last
joined_forms f [] last = append-nil last
joined_forms f (x ∷ xs) last = ap (λ l. f x ++ l) (joined_forms f xs last) ∙ sym (append_assoc (f x) (flat_map f xs) last)

module _ (th : Theory) (bare : IsBareTheory th) (text : RuleText) (metas : List MetaDecl) where
  abbrev Reads : List Token → JudgmentScheme → Type 0
  Reads = ReadsOnlyAs th.sig th.judgments (closed_names metas)

  -- the forms of a rule over these names
  moved : AreGathered th.sig.cats (joined (rule_forms text)) metas → (r : Rule) → IsBlockRule th.sig th.judgments text r
      → (qs : List JudgmentScheme) × (i : JudgmentScheme) × AllZip (ReadsOnlyAs th.sig th.judgments (closed_names metas)) text.premises qs
      × ReadsOnlyAs th.sig th.judgments (closed_names metas) text.conclusion i × (i.judgment ≡ r.conclusion.judgment)
  moved h r k =
      let says = rule_says th.sig th.judgments bare.sig bare.apart bare.judgments text r k in
      let there = forms_moved th.sig th.judgments bare.sig bare.apart bare.judgments text (r.metas ++ says.unread) metas says.gathered h r.premises r.conclusion says.premises says.conclusion in
      (there.0, there.1, there.2, there.3, there.4)

  pub no_rule : AreGathered th.sig.cats (joined (rule_forms text)) metas → ((js : List JudgmentScheme) (j : JudgmentScheme) → AllZip (ReadsOnlyAs th.sig th.judgments (closed_names metas)) text.premises js
      → ReadsOnlyAs th.sig th.judgments (closed_names metas) text.conclusion j → ⊥) → (r : Rule) → IsBlockRule th.sig th.judgments text r → ⊥
  no_rule h none r k = let there = moved h r k in none there.0 there.1 there.2 there.3

  pub other_block : AreCollected th.sig.cats (joined (rule_forms text)) metas → (j : JudgmentScheme) → ReadsOnlyAs th.sig th.judgments (closed_names metas) text.conclusion j
      → (suc j.judgment ≡ text.block → ⊥) → (r : Rule) → IsBlockRule th.sig th.judgments text r → ⊥
  other_block h j read other r k =
      let there = moved (as_gathered th.sig th.judgments bare.sig bare.apart bare.judgments text metas h) r k in
      let same : there.1 ≡ j = one_reading th.sig th.judgments (closed_names metas) text.conclusion there.1 j there.3 read in
      let number : j.judgment ≡ r.conclusion.judgment = ap (λ (i : JudgmentScheme). i.judgment) (sym same) ∙ there.4 in
      other (ap suc number ∙ k.block)

-- what is read again over the names sorted by whether they stand in the first reading
module _ (th : Theory) (bare : IsBareTheory th) (text : RuleText) (metas used unread : List MetaDecl) where
  pub sorted_plain : (zs : List JudgmentScheme) → AreCollected th.sig.cats (joined (rule_forms text)) metas → AreReadOf metas zs metas used → AreUnreadOf metas zs metas unread
      → IsPlain th.sig th.judgments (settled (closed_names (used ++ unread))) want_judgment
  sorted_plain zs h read not_read =
      plain_settled th (joined (rule_forms text)) (used ++ unread) bare (sorted_gathered th.sig th.judgments bare.sig bare.apart bare.judgments text metas used unread zs h read not_read)

  -- the rule that is found, or that there is none
  pub found_rule : (ps : List JudgmentScheme) (j : JudgmentScheme) → AreCollected th.sig.cats (joined (rule_forms text)) metas
      → AreReadOf metas (ps ++ j ∷ []) metas used → AreUnreadOf metas (ps ++ j ∷ []) metas unread
      → AllZip (ReadsOnlyAs th.sig th.judgments (closed_names metas)) text.premises ps → ReadsOnlyAs th.sig th.judgments (closed_names metas) text.conclusion j → suc j.judgment ≡ text.block
      → (found : Option RuleScheme)
      → MatchOption found
      ((js : List JudgmentScheme) (i : JudgmentScheme) → AllZip (ReadsOnlyAs th.sig th.judgments (closed_names (used ++ unread))) text.premises js
      → ReadsOnlyAs th.sig th.judgments (closed_names (used ++ unread)) text.conclusion i → ⊥)
      (λ r. (r.name ≡ text.name) × (r.metas ≡ used) × AllZip (ReadsOnlyAs th.sig th.judgments (closed_names (used ++ unread))) text.premises (map judgment_scheme r.premises)
      × ReadsOnlyAs th.sig th.judgments (closed_names (used ++ unread)) text.conclusion (judgment_scheme r.conclusion))
      → MatchOption found ((r : Rule) → IsBlockRule th.sig th.judgments text r → ⊥) (λ r. IsBlockRule th.sig th.judgments text (plain_rule r))
  found_rule ps j h read not_read premises conclusion block None none =
      no_rule th bare text (used ++ unread) (sorted_gathered th.sig th.judgments bare.sig bare.apart bare.judgments text metas used unread (ps ++ j ∷ []) h read not_read) none
  found_rule ps j h read not_read premises conclusion block (Some r) is =
      let made = rule_found th.sig th.judgments bare.sig bare.apart bare.judgments text metas used unread ps j h premises conclusion block read not_read (map judgment_scheme r.premises) (judgment_scheme r.conclusion) is.2 is.3 in
      let same : record { name = text.name; metas = used; premises = map judgment_scheme r.premises; conclusion = judgment_scheme r.conclusion } ≡ plain_rule r =
      λ i. record { name = sym is.0 i; metas = sym is.1 i; premises = map judgment_scheme r.premises; conclusion = judgment_scheme r.conclusion } in
      subst (IsBlockRule th.sig th.judgments text) same made
