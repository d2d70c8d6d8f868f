-- Forms become others exactly where they are of one shape and their equations hold.
use Rattle.std.proofs.Common.{◌≡◌, ◌↔◌, ◌⊎◌, ℕ, ◌+◌, List, [], ◌∷◌, ◌++◌, length, map, take, drop, inl, inr, refl, ap, ◌∙◌, sym, subst, length-append, arith}
use Rattle.std.proofs.lemmas.List.{length-map, take-append-drop}
use Rattle.std.proofs.Math.Seq.{take-append_seam, drop-append_seam}
use Rattle.std.specs.List.{AllByRecursion, AllZip}
use Rattle.binding_terms.proofs.Lists.{cons_head, cons_tail, all_append, all_front, all_right}
use Rattle.binding_terms.specs.Signature.{Signature}
use Rattle.scheme_terms.specs.Forms.{SchemeEntry, SchemeContext, Substitution}
use Rattle.scheme_terms.specs.Context.{variables}
use Rattle.scheme_terms.specs.SchemeScope.{entry_variables}
use Rattle.scheme_terms.specs.Substituting.{applied, applied_entry}
use Rattle.scheme_terms.specs.declared.scheme.Root.{Root}
use Rattle.rule_schemes.specs.Rules.{JudgmentScheme}
use Rattle.rule_schemes.specs.Placed.{root_in, entries_in, applied_entries, form_in}
use Rattle.pattern_unify.specs.Equations.{SchemeEquation}
use Rattle.pattern_unify.specs.FitInto.{Becomes}
use Rattle.proof_kernel.specs.Equating.{equated, entry_equations, form_equations, all_equations, AreLike, IsLike, IsLikeIn}
use Rattle.proof_kernel.proofs.Equations.{become, becoming}

-- each entry adds one variable
abbrev pub AddOne : Signature → List SchemeEntry → Type 0
AddOne sig es = AllByRecursion (λ e. length (variables sig e.prod) ≡ 1) es

-- the variables of entries are as many as the entries
pub entries_long : (sig : Signature) (ls : List ℕ) (n : ℕ) (es : List SchemeEntry) → length ls ≡ n → AddOne sig es → length (entry_variables sig ls es) ≡ n + length es
entries_long sig ls n [] long one = long ∙ (let e : n ≡ n + 0 = omega arith in e)
entries_long sig ls n (x ∷ es) long one =
    entries_long sig (variables sig x.prod ++ ls) (n + 1) es (omega (arith, length-append (variables sig x.prod) ls, one.0, long)) one.1
    ∙ (let e : n + 1 + length es ≡ n + length (x ∷ es) = omega arith in e)

-- a form with schemes for its names, behind entries and with a root
abbrev pub behind : List SchemeEntry → Root → Substitution → JudgmentScheme → JudgmentScheme
behind front root by j =
    record {
      judgment = j.judgment;
      context = record { root = root; entries = front ++ applied_entries by (length front) j.context.entries };
      args = map (applied by.metas by.knowns (length front + length j.context.entries)) j.args;
    }

module _ (sig : Signature) (by : Substitution) where
  abbrev pub Hold : List SchemeEquation → Type 0
  Hold eqs = AllByRecursion (Becomes by.metas by.knowns) eqs

  entries_become : (ls : List ℕ) (n : ℕ) (ds es : List SchemeEntry) → length ls ≡ n → AddOne sig ds → AllZip AreLike ds es → Hold (entry_equations sig ls ds es) →
      applied_entries by n ds ≡ es
  entries_become ls n [] [] long one like h = refl
  entries_become ls n [] (e ∷ es) long one like h = absurd like
  entries_become ls n (d ∷ ds) [] long one like h = absurd like
  entries_become ls n (d ∷ ds) (e ∷ es) long one like h =
      let later : List SchemeEquation = entry_equations sig (variables sig d.prod ++ ls) ds es in
      let args : map (applied by.metas by.knowns n) d.args ≡ e.args =
      subst (λ k. map (applied by.metas by.knowns k) d.args ≡ e.args) long
      (become by.metas by.knowns ls d.args e.args like.0.1 (all_front (Becomes by.metas by.knowns) (equated ls d.args e.args) later h)) in
      let first : applied_entry by n d ≡ e = λ i. record { prod = like.0.0 i; args = args i } in
      let rest = entries_become (variables sig d.prod ++ ls) (n + 1) ds es (omega (arith, length-append (variables sig d.prod) ls, one.0, long)) one.1 like.1
      (all_right (Becomes by.metas by.knowns) (equated ls d.args e.args) later h) in
      λ i. first i ∷ rest i

  entries_becoming : (ls : List ℕ) (n : ℕ) (ds es : List SchemeEntry) → length ls ≡ n → AddOne sig ds → applied_entries by n ds ≡ es →
      AllZip AreLike ds es × Hold (entry_equations sig ls ds es)
  entries_becoming ls n [] [] long one e = (tt, tt)
  entries_becoming ls n [] (x ∷ es) long one e = absurd (let no : ⊥ = cc in no)
  entries_becoming ls n (d ∷ ds) [] long one e = absurd (let no : ⊥ = cc in no)
  entries_becoming ls n (d ∷ ds) (x ∷ es) long one e =
      let head : applied_entry by n d ≡ x = cons_head e in
      let args : map (applied by.metas by.knowns n) d.args ≡ x.args = ap (λ (y : SchemeEntry). y.args) head in
      let rest = entries_becoming (variables sig d.prod ++ ls) (n + 1) ds es (omega (arith, length-append (variables sig d.prod) ls, one.0, long)) one.1 (cons_tail e) in (
        ((ap (λ (y : SchemeEntry). y.prod) head, sym (length-map d.args (applied by.metas by.knowns n)) ∙ ap length args), rest.0),
        all_append (Becomes by.metas by.knowns) (equated ls d.args x.args) (entry_equations sig (variables sig d.prod ++ ls) ds es)
            (becoming by.metas by.knowns ls d.args x.args (subst (λ k. map (applied by.metas by.knowns k) d.args ≡ x.args) (sym long) args)) rest.1,
      )

  -- the locals under which the equations of a form stand go with the entries that are before it
  pub record IsAround (ls : List ℕ) (front : List SchemeEntry) (j : JudgmentScheme) : Type 0 where
    pub one : AddOne sig j.context.entries
    pub long : (length ls ≡ length front) ⊎ (j.context.entries ≡ [])
    pub args : map (applied by.metas by.knowns (length (entry_variables sig ls j.context.entries))) j.args
        ≡ map (applied by.metas by.knowns (length front + length j.context.entries)) j.args

  entries_both : (ls : List ℕ) (n : ℕ) (ds es : List SchemeEntry) → (length ls ≡ n) ⊎ (ds ≡ []) → AddOne sig ds →
      (applied_entries by n ds ≡ es) ↔ (AllZip AreLike ds es × Hold (entry_equations sig ls ds es))
  entries_both ls n ds es (inl long) one = (λ e. entries_becoming ls n ds es long one e, λ h. entries_become ls n ds es long one h.0 h.1)
  entries_both ls n ds es (inr none) one =
      subst (λ (xs : List SchemeEntry). (applied_entries by n xs ≡ es) ↔ (AllZip AreLike xs es × Hold (entry_equations sig ls xs es))) (sym none) (empty es)
    where
      empty : (es : List SchemeEntry) → ([] ≡ es) ↔ (AllZip AreLike [] es × Hold [])
      empty [] = (λ e. (tt, tt), λ h. refl)
      empty (x ∷ es) = (λ e. absurd (let no : ⊥ = cc in no), λ h. absurd h.0)

  form_becomes : (ls : List ℕ) (front : List SchemeEntry) (root : Root) (j t : JudgmentScheme) → IsAround ls front j → IsLike front root j t →
      Hold (form_equations sig ls (length front) j t) → behind front root by j ≡ t
  form_becomes ls front root j t is like h =
      let rest : List SchemeEntry = drop (length front) t.context.entries in
      let first : List SchemeEquation = entry_equations sig ls j.context.entries rest in
      let second : List SchemeEquation = equated (entry_variables sig ls j.context.entries) j.args t.args in
      let own : applied_entries by (length front) j.context.entries ≡ rest =
      (entries_both ls (length front) j.context.entries rest is.long is.one).1 (like.entries, all_front (Becomes by.metas by.knowns) first second h) in
      let entries : front ++ applied_entries by (length front) j.context.entries ≡ t.context.entries =
      ap (λ xs. xs ++ applied_entries by (length front) j.context.entries) (sym like.front_is)
      ∙ ap (λ xs. take (length front) t.context.entries ++ xs) own ∙ take-append-drop (length front) t.context.entries in
      let args = sym is.args ∙ become by.metas by.knowns (entry_variables sig ls j.context.entries) j.args t.args like.args
      (all_right (Becomes by.metas by.knowns) first second h) in
      λ i. record { judgment = like.judgment i; context = record { root = like.root_is i; entries = entries i }; args = args i }

  form_becoming : (ls : List ℕ) (front : List SchemeEntry) (root : Root) (j t : JudgmentScheme) → IsAround ls front j → behind front root by j ≡ t →
      IsLike front root j t × Hold (form_equations sig ls (length front) j t)
  form_becoming ls front root j t is e =
      let entries : front ++ applied_entries by (length front) j.context.entries ≡ t.context.entries = ap (λ (f : JudgmentScheme). f.context.entries) e in
      let args : map (applied by.metas by.knowns (length front + length j.context.entries)) j.args ≡ t.args = ap (λ (f : JudgmentScheme). f.args) e in
      let own : applied_entries by (length front) j.context.entries ≡ drop (length front) t.context.entries =
      sym (drop-append_seam front (applied_entries by (length front) j.context.entries)) ∙ ap (drop (length front)) entries in
      let both = (entries_both ls (length front) j.context.entries (drop (length front) t.context.entries) is.long is.one).0 own in (
        record {
          judgment = ap (λ (f : JudgmentScheme). f.judgment) e;
          root_is = ap (λ (f : JudgmentScheme). f.context.root) e;
          args = sym (length-map j.args (applied by.metas by.knowns (length front + length j.context.entries))) ∙ ap length args;
          front_is = ap (take (length front)) (sym entries) ∙ take-append_seam front (applied_entries by (length front) j.context.entries);
          entries = both.0;
        },
        all_append (Becomes by.metas by.knowns) (entry_equations sig ls j.context.entries (drop (length front) t.context.entries))
            (equated (entry_variables sig ls j.context.entries) j.args t.args) both.1
            (becoming by.metas by.knowns (entry_variables sig ls j.context.entries) j.args t.args (is.args ∙ args)),
      )

  -- forms in a context
  abbrev pub AreAround : List ℕ → SchemeContext → List JudgmentScheme → Type 0
  AreAround ls ctx js = AllByRecursion (λ j. IsAround ls (entries_in ctx j.context.root) j) js

  pub forms_become : (ls : List ℕ) (ctx : SchemeContext) (js ts : List JudgmentScheme) → AreAround ls ctx js → AllZip (IsLikeIn ctx) js ts →
      Hold (all_equations sig ls ctx js ts) → map (form_in ctx by) js ≡ ts
  forms_become ls ctx [] [] is like h = refl
  forms_become ls ctx [] (t ∷ ts) is like h = absurd like
  forms_become ls ctx (j ∷ js) [] is like h = absurd like
  forms_become ls ctx (j ∷ js) (t ∷ ts) is like h =
      let here : List SchemeEquation = form_equations sig ls (length (entries_in ctx j.context.root)) j t in
      let first = form_becomes ls (entries_in ctx j.context.root) (root_in ctx j.context.root) j t is.0 like.0
      (all_front (Becomes by.metas by.knowns) here (all_equations sig ls ctx js ts) h) in
      let rest = forms_become ls ctx js ts is.1 like.1 (all_right (Becomes by.metas by.knowns) here (all_equations sig ls ctx js ts) h) in
      λ i. first i ∷ rest i

  pub forms_becoming : (ls : List ℕ) (ctx : SchemeContext) (js ts : List JudgmentScheme) → AreAround ls ctx js → map (form_in ctx by) js ≡ ts →
      AllZip (IsLikeIn ctx) js ts × Hold (all_equations sig ls ctx js ts)
  forms_becoming ls ctx [] [] is e = (tt, tt)
  forms_becoming ls ctx [] (t ∷ ts) is e = absurd (let no : ⊥ = cc in no)
  forms_becoming ls ctx (j ∷ js) [] is e = absurd (let no : ⊥ = cc in no)
  forms_becoming ls ctx (j ∷ js) (t ∷ ts) is e =
      let first = form_becoming ls (entries_in ctx j.context.root) (root_in ctx j.context.root) j t is.0 (cons_head e) in
      let rest = forms_becoming ls ctx js ts is.1 (cons_tail e) in (
        (first.0, rest.0),
        all_append (Becomes by.metas by.knowns) (form_equations sig ls (length (entries_in ctx j.context.root)) j t) (all_equations sig ls ctx js ts) first.1 rest.1,
      )
