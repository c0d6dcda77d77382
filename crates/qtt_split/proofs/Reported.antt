-- Reports, place by place.
use Rattle.std.proofs.Common.{◌≡◌, ◌∙◌, ℕ, suc, ◌+◌, ◌<◌, ◌≤◌, true, false, cond, List, Vec, Global, [], ◌∷◌, ◌++◌, length, get_or, map, drop, Option, refl, sym, ap, append_assoc, append-nil}
use Rattle.std.proofs.lemmas.List.{map-append, drop_more, drop_all}
use Rattle.std.specs.List.{filter}
use Rattle.qtt_base.specs.declared.place.Span.{Span}
use Rattle.qtt_syntax.specs.declared.expr.Mark.{Mark}
use Rattle.qtt_syntax.specs.declared.expr.Named.{Named}
use Rattle.qtt_syntax.specs.declared.pattern.Pattern.{Pattern}
use Rattle.qtt_syntax.specs.declared.pattern.Pattern.TheVariants as pattern
use Rattle.qtt_syntax.specs.Tree.{Shape, shapes}
use Rattle.qtt_syntax.specs.View.{shape_of}
use Rattle.qtt_syntax.proofs.Rows.{constructor_view}
use Rattle.qtt_term.specs.declared.term.ConId.{ConId}
use Rattle.qtt_rules.specs.Report.{Report}
use Rattle.qtt_split.specs.declared.sights.Seen as code_seen
use Rattle.qtt_split.specs.declared.tree.Report as code_report
use Rattle.qtt_split.specs.Plan.{clause_reports}
use Rattle.qtt_split.specs.Seen.{Seen, Sights, shows, oldest_first, reported_at, reports, all_reports}
use Rattle.qtt_split.specs.Sights.{seen_of, sights_of}
use Rattle.qtt_split.specs.View.{report_of}

-- ---- at one place
module _ (name : Option (List ℕ)) (s : Span) (y : Seen) where
  abbrev pub report_at : ℕ → Report
  report_at i = record { variable = i; name = name; place = s }

  abbrev told : List ℕ → List Report
  told is = map report_at (filter (λ i. shows i y) is)

  pub told-more : (n : ℕ) (front : List Report) → shows n y ≡ true →
      front ++ reported_at (suc n) name s y ≡ (front ++ report_at n ∷ []) ++ reported_at n name s y
  told-more n front e =
      let rest = filter (λ i. shows i y) (oldest_first n) in
      ap (λ b. front ++ map report_at (cond b (n ∷ rest) rest)) e ∙
      sym (append_assoc front (report_at n ∷ []) (told (oldest_first n)))

  pub told-same : (n : ℕ) → shows n y ≡ false → reported_at (suc n) name s y ≡ reported_at n name s y
  told-same n e =
      let rest = filter (λ i. shows i y) (oldest_first n) in ap (λ b. map report_at (cond b (n ∷ rest) rest)) e

-- ---- patterns, each against what was seen of its place
pub fields-told : (n : ℕ) (ps : List Shape) (ss : Sights) → all_reports n (shapes ps) ss ≡ clause_reports n ps ss
fields-told n [] ss = refl
fields-told n (p ∷ ps) Sights.no_sight = refl
fields-told n (p ∷ ps) (Sights.sight_and y ss) = ap (λ rs. reports n p y ++ rs) (fields-told n ps ss)

pub told-made : (n : ℕ) (k : Mark) (h : Named) (args : Vec Pattern Global) (s : Span) (c : ConId) (ss : Sights) →
    clause_reports n (map shape_of args.items) ss
    ≡ reports n (shape_of (pattern.Constructor k h args s)) (Seen.made_of c ss)
told-made n k h args s c ss =
    sym (ap (λ p. reports n p (Seen.made_of c ss)) (constructor_view k h args s) ∙
    fields-told n (map shape_of args.items) ss)

abbrev clause_told : ℕ → List Pattern → List code_seen.Seen → List Report
clause_told n ps ss = clause_reports n (map shape_of ps) (sights_of ss)

pub record ToldSoFar (n : ℕ) (ps : List Pattern) (ss : List code_seen.Seen) (i : ℕ)
    (told : List code_report.Report) : Type 0 where
  pub is : clause_told n ps ss ≡ map report_of told ++ clause_told n (drop i ps) (drop i ss)

pub none-told : (n : ℕ) (ps : List Pattern) (ss : List code_seen.Seen) → ToldSoFar n ps ss 0 []
none-told n ps ss = record { is = refl }

pub one-told : (n : ℕ) (ps : List Pattern) (ss : List code_seen.Seen) (i : ℕ) (told more : List code_report.Report)
    (p : Pattern) (y : code_seen.Seen) → i < length ps → p ≡ get_or ps i p → i < length ss → y ≡ get_or ss i y →
    map report_of more ≡ reports n (shape_of p) (seen_of y) →
    ToldSoFar n ps ss i told → ToldSoFar n ps ss (i + 1) (told ++ more)
one-told n ps ss i told more p y h d k e m so = record {
  is =
      so.is ∙
      ap (λ rs. map report_of told ++ rs)
      (ap (λ xs. clause_told n xs (drop i ss)) (drop_more ps i p h ∙ ap (λ x. x ∷ drop (i + 1) ps) (sym d)) ∙
      ap (clause_told n (p ∷ drop (i + 1) ps)) (drop_more ss i y k ∙ ap (λ x. x ∷ drop (i + 1) ss) (sym e)) ∙
      ap (λ rs. rs ++ clause_told n (drop (i + 1) ps) (drop (i + 1) ss)) (sym m)) ∙
      sym (append_assoc (map report_of told) (map report_of more)
      (clause_told n (drop (i + 1) ps) (drop (i + 1) ss))) ∙
      ap (λ rs. rs ++ clause_told n (drop (i + 1) ps) (drop (i + 1) ss)) (sym (map-append report_of told more));
}

no-place : (n : ℕ) (ps : List Shape) → clause_reports n ps Sights.no_sight ≡ []
no-place n [] = refl
no-place n (p ∷ ps) = refl

pub all-seen_told : (n : ℕ) (ps : List Pattern) (ss : List code_seen.Seen) (i : ℕ) (told : List code_report.Report) →
    length ss ≤ i → ToldSoFar n ps ss i told → map report_of told ≡ clause_told n ps ss
all-seen_told n ps ss i told h so =
    sym (so.is ∙
    ap (λ rs. map report_of told ++ rs)
    (ap (λ xs. clause_told n (drop i ps) xs) (drop_all i ss h) ∙ no-place n (map shape_of (drop i ps))) ∙
    append-nil (map report_of told))

pub all-told : (n : ℕ) (ps : List Pattern) (ss : List code_seen.Seen) (i : ℕ) (told : List code_report.Report) →
    length ps ≤ i → ToldSoFar n ps ss i told → map report_of told ≡ clause_told n ps ss
all-told n ps ss i told h so =
    sym (so.is ∙
    ap (λ rs. map report_of told ++ rs) (ap (λ xs. clause_told n xs (drop i ss)) (drop_all i ps h)) ∙
    append-nil (map report_of told))
