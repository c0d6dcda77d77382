-- The modules of a rank, each under its number.
use Rattle.std.proofs.Common.{◌≡◌, ◌+◌, ℕ, List, [], ◌∷◌, ◌++◌, map, Some, None, sym, ap, ◌∙◌, append_assoc}
use Rattle.std.specs.Prelude.{slice_get, option_map}
use Rattle.std.specs.List.{cons_option}
use Rattle.std.proofs.lemmas.List.{map-append}
use Rattle.std.proofs.lemmas.Option.{slice_get-map}
use Rattle.qtt_syntax.specs.declared.module.ModuleText.{ModuleText}
use Rattle.qtt_syntax.specs.Tree.{Module}
use Rattle.qtt_syntax.specs.View.{module_of}
use Rattle.qtt_build.specs.declared.worker.Job.{Job}
use Rattle.qtt_build.specs.Build.{modules_at}
use Rattle.qtt_build.specs.Answer.{task_of, tasks_from}

module _ (texts : List ModuleText) where
  abbrev at : List ℕ → List Module
  at places = modules_at (map module_of texts) places

  at-some : (i : ℕ) (t : ModuleText) (places : List ℕ) → slice_get texts i ≡ Some t →
      at (i ∷ places) ≡ module_of t ∷ at places
  at-some i t places e =
      ap (λ o. cons_option o (at places)) (slice_get-map module_of texts i ∙ ap (option_map module_of) e)

  at-none : (i : ℕ) (places : List ℕ) → slice_get texts i ≡ None → at (i ∷ places) ≡ at places
  at-none i places e =
      ap (λ o. cons_option o (at places)) (slice_get-map module_of texts i ∙ ap (option_map module_of) e)

  -- one more job, in front of those that are left
  pub one-job : (jobs : List Job) (j : Job) (i : ℕ) (places : List ℕ) → slice_get texts i ≡ Some j.text.now →
      map task_of (jobs ++ j ∷ []) ++ tasks_from (j.id.0 + 1) (at places)
      ≡ map task_of jobs ++ tasks_from j.id.0 (at (i ∷ places))
  one-job jobs j i places e =
      ap (λ ts. ts ++ tasks_from (j.id.0 + 1) (at places)) (map-append task_of jobs (j ∷ []))
      ∙ append_assoc (map task_of jobs) (task_of j ∷ []) (tasks_from (j.id.0 + 1) (at places))
      ∙ ap (λ ms. map task_of jobs ++ tasks_from j.id.0 ms) (sym (at-some i j.text.now places e))

  pub no-job : (jobs : List Job) (k i : ℕ) (places : List ℕ) → slice_get texts i ≡ None →
      map task_of jobs ++ tasks_from k (at places) ≡ map task_of jobs ++ tasks_from k (at (i ∷ places))
  no-job jobs k i places e = ap (λ ms. map task_of jobs ++ tasks_from k ms) (sym (at-none i places e))
