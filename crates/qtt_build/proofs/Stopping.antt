-- What a build comes to, by its stages: why it stops, and what is built.
use Rattle.std.proofs.Common.{◌≡◌, ◌≤◌, ℕ, List, [], ◌∷◌, map, length, Option, Some, None, Ok, Err, refl, sym, ap, ◌∙◌, true, arith}
use Rattle.std.proofs.lemmas.List.{length-map}
use Rattle.std.specs.List.{list_any}
use Rattle.std.specs.Prelude.{option_map, unwrap_or}
use Rattle.qtt_base.specs.declared.place.Span.{Span}
use Rattle.qtt_syntax.specs.Tree.{Module}
use Rattle.qtt_graph.specs.Graph.{Name, Graph, header_of}
use Rattle.qtt_graph.specs.Ring.{ring_place}
use Rattle.qtt_graph.specs.Ranks.{ranks}
use Rattle.qtt_term.specs.Entries.{prim_entries}
use Rattle.qtt_term.specs.declared.rule.Rule.{Rule}
use Rattle.qtt_term.specs.declared.rule.Rule.TheVariants as rule
use Rattle.qtt_rules.specs.declared.refusal.Refusal.{Refusal}
use Rattle.qtt_rules.specs.Kinds.{kind_of}
use Rattle.qtt_diag.specs.Kept.{Detail, detail, refusal as kept_of}
use Rattle.qtt_diag.specs.Kept as kept
use Rattle.qtt_diag.specs.Laws.{KindsAgree}
use Rattle.qtt_load.specs.Reading.{Reading, Texts, read_in, front}
use Rattle.qtt_load.specs.Loading.{loaded, refusal}
use Rattle.qtt_load.specs.Loading as loading
use Rattle.qtt_load.specs.Answer.{Loads, IsLoading}
use Rattle.qtt_load.specs.Laws.{LoadedAreBuilds}
use Rattle.qtt_load.specs.Order.{IsOrder, ring_refusal}
use Rattle.qtt_load.specs.declared.errors.LoadError.{LoadError}
use Rattle.qtt_load.specs.declared.errors.LoadError.TheVariants as load
use Rattle.qtt_load.specs.declared.errors.OrderError.{OrderError}
use Rattle.qtt_load.specs.declared.errors.OrderError.TheVariants as order
use Rattle.qtt_module.specs.declared.errors.ModuleError.{ModuleError}
use Rattle.qtt_module.specs.declared.errors.ModuleError.TheVariants as judging
use Rattle.qtt_module.specs.Refused.{refused_of}
use Rattle.qtt_module.specs.Answer.{Gives}
use Rattle.qtt_build.specs.Built.{Built, nothing_yet, built_by_rank, is_named}
use Rattle.qtt_build.specs.Build.{Stop, ◌>>=◌, plain_stop, loading_stop, of_loading, ring_stop, of_ranks, of_answer, modules_at, build}
use Rattle.qtt_build.specs.Answer.{building_of, Comes, IsBuild, IsJudged, of_load, total}
use Rattle.qtt_build.specs.Laws.{RootsAreBuilt}
use Rattle.qtt_build.proofs.Judged.{behind_ranks, behind_loading}
use Rattle.qtt_build.proofs.Totals.{few-levels}

-- ---- stages
module _ (read : Name → Reading Module) (root : Name) (n : ℕ) where
  stops-loading : (s : loading.Stop) → loaded read root ≡ Err s → build read root n ≡ Err (loading_stop s)
  unfolding build ◌>>=◌
  stops-loading s e = ap (λ r. of_loading r >>= behind_loading read root n) e

  stops-ordering : (ms : List Module) (way : List Name) → loaded read root ≡ Ok ms →
      ranks (map header_of ms) ≡ Err way → build read root n ≡ Err (ring_stop (map header_of ms) way)
  unfolding build ◌>>=◌
  stops-ordering ms way l e =
      ap (λ r. of_loading r >>= behind_loading read root n) l
      ∙ ap (λ r. of_ranks (map header_of ms) r >>= behind_ranks read root n ms) e

  comes-to : (ms : List Module) (levels : List (List ℕ)) → loaded read root ≡ Ok ms →
      ranks (map header_of ms) ≡ Ok levels →
      build read root n ≡ of_answer (built_by_rank n nothing_yet (map (modules_at ms) levels))
  unfolding build ◌>>=◌
  comes-to ms levels l e =
      ap (λ r. of_loading r >>= behind_loading read root n) l
      ∙ ap (λ r. of_ranks (map header_of ms) r >>= behind_ranks read root n ms) e

-- ---- refusals
module _ (agree : KindsAgree) where
  -- the premises of whole texts and builds are numbered as their kinds
  numbered-so : (R : Rule) (r : Refusal) → r.rule ≡ R → r.premise ≡ kind_of r.detail →
      plain_stop R (kept_of r) ≡ Stop.refused (refused_of r)
  numbered-so R r e h =
      ap (λ (S : Rule). plain_stop S (kept_of r)) (sym e)
      ∙ ap (λ (k : ℕ). Stop.refused (record { rule = r.rule; number = k; kept = kept_of r }))
      (agree prim_entries r.detail ∙ sym h)

  -- ---- loading stops
  pub not-loaded : (told_texts : Option Texts) (root : Name) (n : ℕ) (e : LoadError) →
      IsLoading told_texts root (Err e) → IsBuild told_texts root n (Err (of_load e))
  not-loaded told_texts root n (load.Absent a) (texts, is, l) =
      (texts, is, stops-loading (read_in texts) root n (loading.Stop.absent a) l)
  not-loaded told_texts root n (load.Refused r) ((texts, is, l), h) = (
    texts,
    is,
    stops-loading (read_in texts) root n (loading.Stop.refused r.rule (kept_of r)) l
        ∙ ap (λ (s : Stop). Err s) (numbered-so r.rule r refl h),
  )
  not-loaded told_texts root n load.VaultFault h = tt
  not-loaded told_texts root n load.Memory h = tt

  -- ---- a ring
  -- the refusal of a ring is that of the build
  ring-kept : (g : Graph) (way : List Name) (k : kept.Refusal) → ring_refusal g way ≡ Some k →
      ring_stop g way ≡ plain_stop rule.Build k
  ring-kept g [] k e = absurd (cc e)
  ring-kept g (a ∷ more) k e = by_place (ring_place g (a ∷ more)) e
    where
      by_place : (o : Option Span) → option_map (λ s. refusal a s (Detail.cycle (a ∷ more))) o ≡ Some k →
          plain_stop rule.Build (refusal a (unwrap_or o front) (Detail.cycle (a ∷ more))) ≡ plain_stop rule.Build k
      by_place None h = absurd (cc h)
      by_place (Some s) h =
          let same : refusal a s (Detail.cycle (a ∷ more)) ≡ k = cc h in ap (plain_stop rule.Build) same

  abbrev pub ordered : OrderError → ModuleError
  ordered (order.Refused r) = judging.Refused r
  ordered order.Memory = judging.Memory

  pub not-ordered : (told_texts : Option Texts) (root : Name) (n : ℕ) (ms : List Module) (e : OrderError) →
      Loads told_texts root (Ok ms) → IsOrder (map header_of ms) (Err e) →
      IsJudged told_texts root n (Err (ordered e))
  not-ordered told_texts root n ms (order.Refused r) (texts, is, l) (way, ranked, told_so, named, numbered) = (
    texts,
    is,
    stops-ordering (read_in texts) root n ms way l ranked
        ∙ ap (λ (s : Stop). Err s) (ring-kept (map header_of ms) way (kept_of r) told_so
        ∙ numbered-so rule.Build r named numbered),
  )
  not-ordered told_texts root n ms order.Memory l h = tt

-- ---- a rank is refused
pub not-judged : (told_texts : Option Texts) (root : Name) (n : ℕ) (ms : List Module) (levels : List (List ℕ))
    (e : ModuleError) → Loads told_texts root (Ok ms) → ranks (map header_of ms) ≡ Ok levels →
    Gives building_of (Err e) (built_by_rank n nothing_yet (map (modules_at ms) levels)) →
    IsJudged told_texts root n (Err e)
not-judged told_texts root n ms levels (judging.Refused r) (texts, is, l) ranked h =
    (texts, is, comes-to (read_in texts) root n ms levels l ranked ∙ ap of_answer h)
not-judged told_texts root n ms levels judging.Memory l ranked h = tt

-- ---- all are accepted
pub comes-built : (told_texts : Option Texts) (root : Name) (n : ℕ) (ms : List Module) (levels : List (List ℕ))
    (B : Built) → Loads told_texts root (Ok ms) → ranks (map header_of ms) ≡ Ok levels →
    built_by_rank n nothing_yet (map (modules_at ms) levels) ≡ Ok B → Comes told_texts root n (Ok B)
comes-built told_texts root n ms levels B (texts, is, l) ranked h =
    (texts, is, comes-to (read_in texts) root n ms levels l ranked ∙ ap of_answer h)

-- ---- what is loaded, and its ranks, are few
few-loaded : LoadedAreBuilds → (told_texts : Option Texts) (root : Name) (ms : List Module) →
    Loads told_texts root (Ok ms) → length ms ≤ 1000
few-loaded builds told_texts root ms (texts, is, l) =
    (builds.builds (read_in texts) root ms (builds.as_named texts) l).few

pub few-placed : LoadedAreBuilds → (root : Name) (ms : List Module) (levels : List (List ℕ)) →
    (told_texts : Option Texts) × Loads told_texts root (Ok ms) → ranks (map header_of ms) ≡ Ok levels →
    total levels ≤ 1000
few-placed builds root ms levels (told_texts, l) ranked =
    omega (
      arith,
      few-levels (map header_of ms) levels ranked,
      length-map ms header_of,
      few-loaded builds told_texts root ms l,
    )

-- ---- the named module is built
root-built : RootsAreBuilt → (told_texts : Option Texts) (root : Name) (n : ℕ) (B : Built) →
    Comes told_texts root n (Ok B) → list_any (is_named root) B.order ≡ true
root-built roots told_texts root n B (texts, is, b) = roots texts root n B b

pub root-placed : RootsAreBuilt → (root : Name) (n : ℕ) (ms : List Module) (levels : List (List ℕ)) (B : Built) →
    (told_texts : Option Texts) × Loads told_texts root (Ok ms) → ranks (map header_of ms) ≡ Ok levels →
    built_by_rank n nothing_yet (map (modules_at ms) levels) ≡ Ok B → list_any (is_named root) B.order ≡ true
root-placed roots root n ms levels B (told_texts, l) ranked h =
    root-built roots told_texts root n B (comes-built told_texts root n ms levels B l ranked h)
