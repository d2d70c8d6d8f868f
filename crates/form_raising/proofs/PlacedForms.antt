-- Forms under substitutions, part by part.
use Rattle.std.proofs.Common.{◌≡◌, ℕ, suc, ◌+◌, List, [], ◌∷◌, ◌++◌, length, map, refl, ap, ◌∙◌, sym}
use Rattle.std.proofs.lemmas.List.{length-map, length-append}
use Rattle.scheme_terms.specs.Forms.{SchemeEntry, Substitution}
use Rattle.scheme_terms.specs.Substituting.{applied}
use Rattle.scheme_terms.specs.View.{scheme, scheme_entry, scheme_context, substitution}
use Rattle.scheme_terms.specs.declared.scheme.Scheme.{Scheme}
use Rattle.scheme_terms.specs.declared.scheme.SEntry.{SEntry}
use Rattle.scheme_terms.specs.declared.scheme.SCtx.{SCtx}
use Rattle.scheme_terms.specs.declared.scheme.Subst.{Subst}
use Rattle.scheme_terms.specs.declared.scheme.Root.{Root}
use Rattle.rule_schemes.specs.Placed.{root_in, entries_in, applied_entries, form_in, applied_judgment}
use Rattle.rule_schemes.specs.View.{judgment_scheme}
use Rattle.rule_schemes.specs.declared.rule.JScheme.{JScheme}

count_applied : (by : Substitution) (n : ℕ) (es : List SchemeEntry) → length (applied_entries by n es) ≡ length es
count_applied by n [] = refl
count_applied by n (e ∷ es) = ap suc (count_applied by (n + 1) es)

pub applied_is : (by : Subst) (form : JScheme) (entries : List SEntry) (args : List Scheme) → map scheme_entry entries ≡ applied_entries (substitution by) 0 (map scheme_entry form.ctx.entries)
    → map scheme args ≡ map (applied (substitution by).metas (substitution by).knowns (length entries)) (map scheme form.args)
    → judgment_scheme (record { judgment = form.judgment; ctx = record { root = form.ctx.root; entries = entries }; args = args })
    ≡ applied_judgment (substitution by) (judgment_scheme form)
applied_is by form entries args es ss =
    let b = substitution by in
    let count : length entries ≡ length (map scheme_entry form.ctx.entries) = sym (length-map entries scheme_entry) ∙ ap length es ∙ count_applied b 0 (map scheme_entry form.ctx.entries) in
    ap (λ xs. record { judgment = form.judgment.0; context = record { root = form.ctx.root; entries = xs }; args = map scheme args }) es
    ∙ ap (λ xs. record { judgment = form.judgment.0; context = record { root = form.ctx.root; entries = applied_entries b 0 (map scheme_entry form.ctx.entries) }; args = xs })
    (ss ∙ ap (λ n. map (applied b.metas b.knowns n) (map scheme form.args)) count)

pub form_is : (ctx : SCtx) (by : Subst) (form : JScheme) (front entries : List SEntry) (root : Root) (args : List Scheme)
    → map scheme_entry front ≡ entries_in (scheme_context ctx) form.ctx.root
    → map scheme_entry entries ≡ map scheme_entry front ++ applied_entries (substitution by) (length front) (map scheme_entry form.ctx.entries)
    → root ≡ root_in (scheme_context ctx) form.ctx.root
    → map scheme args ≡ map (applied (substitution by).metas (substitution by).knowns (length entries)) (map scheme form.args)
    → judgment_scheme (record { judgment = form.judgment; ctx = record { root = root; entries = entries }; args = args })
    ≡ form_in (scheme_context ctx) (substitution by) (judgment_scheme form)
form_is ctx by form front entries root args fronts es roots ss =
    let b = substitution by in
    let own = map scheme_entry form.ctx.entries in
    let before = entries_in (scheme_context ctx) form.ctx.root in
    let count : length front ≡ length before = sym (length-map front scheme_entry) ∙ ap length fronts in
    let all : map scheme_entry entries ≡ before ++ applied_entries b (length before) own =
    es ∙ ap (λ xs. xs ++ applied_entries b (length front) own) fronts ∙ ap (λ n. before ++ applied_entries b n own) count in
    let total : length entries ≡ length before + length own =
    sym (length-map entries scheme_entry) ∙ ap length all ∙ length-append before (applied_entries b (length before) own)
    ∙ ap (λ n. length before + n) (count_applied b (length before) own) in
    ap (λ xs. record { judgment = form.judgment.0; context = record { root = root; entries = xs }; args = map scheme args }) all
    ∙ ap (λ r. record { judgment = form.judgment.0; context = record { root = r; entries = before ++ applied_entries b (length before) own }; args = map scheme args }) roots
    ∙ ap (λ xs. record { judgment = form.judgment.0; context = record { root = root_in (scheme_context ctx) form.ctx.root; entries = before ++ applied_entries b (length before) own }; args = xs })
    (ss ∙ ap (λ n. map (applied b.metas b.knowns n) (map scheme form.args)) total)
