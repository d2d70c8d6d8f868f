-- A context that becomes a value: the root's entries, then the instances of its own.
use Rattle.std.proofs.Common.{◌≡◌, ◌↔◌, ℕ, suc, ◌+◌, ◌-◌, List, [], ◌∷◌, ◌++◌, length, map, take, drop, refl, ap, ◌∙◌, sym}
use Rattle.std.proofs.lemmas.List.{length-map, take_at, drop_at, take-append-drop}
use Rattle.binding_terms.proofs.Lists.{take_map}
use Rattle.scheme_terms.specs.Forms.{SchemeEntry, SchemeContext, ContextValue, Instance}
use Rattle.scheme_terms.specs.Instance.{context_instance, root_entries, entries_instance, root_cat}
use Rattle.scheme_terms.specs.View.{ground_entry}
use Rattle.scheme_terms.specs.declared.scheme.Entry.{Entry}
use Rattle.scheme_terms.specs.declared.scheme.Root.{Root}
use Rattle.scheme_terms.specs.declared.scheme.Root.TheVariants.{Closed, Empty, Whole}
use Rattle.scheme_match.specs.Demands.{entries_over}
use Rattle.scheme_match.proofs.Asking.{rest_seen}

pub length_entries : (inst : Instance) (n : ℕ) (es : List SchemeEntry) → length (entries_instance inst n es) ≡ length es
length_entries inst n [] = refl
length_entries inst n (e ∷ es) = ap suc (length_entries inst (n + 1) es)

-- it begins with the root's entries
pub begins : (inst : Instance) (ctx : SchemeContext) (v : ContextValue) → context_instance inst ctx ≡ v →
    root_entries inst ctx.root ≡ take (length (root_entries inst ctx.root)) v.entries
begins inst ctx v e =
    sym (take_at (root_entries inst ctx.root) (entries_instance inst 0 ctx.entries) (length (root_entries inst ctx.root)) refl)
    ∙ ap (λ (w : ContextValue). take (length (root_entries inst ctx.root)) w.entries) e

pub goes_on : (inst : Instance) (ctx : SchemeContext) (v : ContextValue) → root_cat ctx.root ≡ v.cat →
    root_entries inst ctx.root ≡ take (length (root_entries inst ctx.root)) v.entries →
    (entries_instance inst 0 ctx.entries ≡ drop (length (root_entries inst ctx.root)) v.entries) ↔ (context_instance inst ctx ≡ v)
goes_on inst ctx v cat front = (
  λ e. let entries : root_entries inst ctx.root ++ entries_instance inst 0 ctx.entries ≡ v.entries =
      ap (λ xs. xs ++ entries_instance inst 0 ctx.entries) front ∙ ap (λ xs. take (length (root_entries inst ctx.root)) v.entries ++ xs) e
      ∙ take-append-drop (length (root_entries inst ctx.root)) v.entries in
      λ i. record { cat = cat i; entries = entries i },
  λ e. sym (drop_at (root_entries inst ctx.root) (entries_instance inst 0 ctx.entries) (length (root_entries inst ctx.root)) refl)
      ∙ ap (λ (w : ContextValue). drop (length (root_entries inst ctx.root)) w.entries) e,
)

-- the root's entries over which a form stands, as they are seen
pub over_root : (inst : Instance) (root : ContextValue) (form : Root) → inst.root ≡ root → root_entries inst form ≡ entries_over root form
over_root inst root Closed e = refl
over_root inst root (Empty c) e = refl
over_root inst root (Whole c) e = ap (λ v. v.entries) e

module _ (inst : Instance) (ctx : SchemeContext) (v : ContextValue) (over ts : List Entry) (seen : map ground_entry over ≡ entries_over inst.root ctx.root)
    (all : map ground_entry ts ≡ v.entries) where
  is_front : map ground_entry over ≡ root_entries inst ctx.root
  is_front = seen ∙ sym (over_root inst inst.root ctx.root refl)

  front_long : length over ≡ length (root_entries inst ctx.root)
  front_long = sym (length-map over ground_entry) ∙ ap length is_front

  front_taken : map ground_entry (take (length over) ts) ≡ take (length (root_entries inst ctx.root)) v.entries
  front_taken = take_map ground_entry (length over) ts ∙ ap (λ xs. take (length over) xs) all ∙ ap (λ n. take n v.entries) front_long

  pub front_fails : (map ground_entry over ≡ map ground_entry (take (length over) ts) → ⊥) → context_instance inst ctx ≡ v → ⊥
  front_fails differ e = differ (is_front ∙ begins inst ctx v e ∙ sym front_taken)

  pub front_holds : root_cat ctx.root ≡ v.cat → map ground_entry over ≡ map ground_entry (take (length over) ts) →
      (entries_instance inst 0 ctx.entries ≡ map ground_entry (take (length ts - length over) (drop (length over) ts))) ↔ (context_instance inst ctx ≡ v)
  front_holds cat e =
      let rest : map ground_entry (take (length ts - length over) (drop (length over) ts)) ≡ drop (length (root_entries inst ctx.root)) v.entries =
      rest_seen ground_entry over (root_entries inst ctx.root) ts is_front ∙ ap (drop (length (root_entries inst ctx.root))) all in
      let both = goes_on inst ctx v cat (sym is_front ∙ e ∙ front_taken) in
      (λ h. both.0 (h ∙ rest), λ h. both.1 h ∙ sym rest)
