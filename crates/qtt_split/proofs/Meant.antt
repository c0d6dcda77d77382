-- The plan of a definition, question by question, and what the answer of the public call says: what is planned within a
-- budget is planned without one, and so is what fails, also with convertible terms; and which question is spent.
use Rattle.std.proofs.Common.{◌≡◌, ◌∙◌, ℕ, List, [], length, reverse, Option, Result, Ok, Err, sym, ap, subst}
use Rattle.std.proofs.lemmas.List.{length-map}
use Rattle.qtt_usage.specs.declared.mult.Mult.{Mult}
use Rattle.qtt_term.specs.declared.term.Term as code_term
use Rattle.qtt_term.specs.Term.{Term}
use Rattle.qtt_term.specs.Judgement.{Ctx, ext}
use Rattle.qtt_term.specs.Signature.{Env}
use Rattle.qtt_term.specs.Contraction.{BodiesClosed}
use Rattle.qtt_term.specs.Ask.{Ask, ◌>>=◌, Ending, Ends, within}
use Rattle.qtt_term.specs.FirstSpent.{FirstSpent, Says}
use Rattle.qtt_term.specs.Entries.{env}
use Rattle.qtt_term.specs.Telescopes.{tele}
use Rattle.qtt_term.specs.View.{term}
use Rattle.qtt_confluence.proofs.Endings.{says}
use Rattle.qtt_conclusions.specs.Conclusions.{Concludes}
use Rattle.qtt_conclusions.proofs.Heads.{conclude}
use Rattle.qtt_rules.specs.declared.errors.ElabError.{ElabError}
use Rattle.qtt_rules.specs.declared.errors.ElabError.TheVariants as error
use Rattle.qtt_rules.specs.Refusal.{Cause, Place, Refusal, at, refused}
use Rattle.qtt_rules.specs.Asks.{Asks}
use Rattle.qtt_unify.specs.View.{binders}
use Rattle.qtt_split.specs.declared.planning.Planned as code
use Rattle.qtt_split.specs.Answers.{Kept, kept, Reaches, Tells, Refuses, Gives}
use Rattle.qtt_split.specs.Node.{Node, Row, all_constructors}
use Rattle.qtt_split.specs.Plan.{width, so_wide, clauses_full, Opened, opened, labels_for, start, start_rows, start_sights, grow, Planned, plan}
use Rattle.qtt_split.specs.Planned.{WherePremise, WhereFails, WhereQuestion, WhereSpent, Plans, planned_of}
use Rattle.qtt_split.specs.Seen.{Sights, oldest_first}
use Rattle.qtt_split.specs.Split.{Group, Grown}
use Rattle.qtt_split.proofs.Binding.{depth-is}
use Rattle.qtt_split.proofs.Noded.{binders-more}
use Rattle.qtt_split.proofs.Within.{on, on_done, here, later}

-- ---- the first node
pub start-as : (G : Group) (labels : List (Option (List ℕ))) (O : Opened) (context : List (Mult × code_term.Term))
    (ls : List (Option (List ℕ))) (ss : Sights) (A : Term) (rows : List Row) (k : ℕ) → tele context ≡ O.binders →
    k ≡ length context → ls ≡ reverse (labels_for (length context) labels) → ss ≡ start_sights (oldest_first k) →
    A ≡ O.goal → rows ≡ start_rows (binders context) 0 G.clauses →
    record { context = binders context; labels = ls; seen = ss; goal = A; rows = rows } ≡ start G labels O
start-as G labels O context ls ss A rows k same count named seen goal listed =
    let Γ : Ctx = ext [] O.binders in
    let node : Ctx → List (Option (List ℕ)) → Sights → Term → List Row → Node = λ Γ ls ss A rows. record {
      context = Γ;
      labels = ls;
      seen = ss;
      goal = A;
      rows = rows;
    } in
    let whole : binders context ≡ Γ = binders-more [] context ∙ ap (ext []) same in
    let long : length context ≡ length O.binders =
    sym (length-map context (λ b. (b.0, term b.1))) ∙ ap length same in
    let deep : k ≡ length Γ = count ∙ sym (depth-is context) ∙ ap length whole in
    ap (λ xs. node (binders context) xs ss A rows)
    (named ∙ ap (λ m. reverse (labels_for m labels)) long) ∙
    ap (λ xs. node (binders context) (reverse (labels_for (length O.binders) labels)) xs A rows)
    (seen ∙ ap (λ m. start_sights (oldest_first m)) deep) ∙
    ap (λ t. node (binders context) (reverse (labels_for (length O.binders) labels))
    (start_sights (oldest_first (length Γ))) t rows) goal ∙
    ap (λ xs. node (binders context) (reverse (labels_for (length O.binders) labels))
    (start_sights (oldest_first (length Γ))) O.goal xs) (listed ∙ ap (λ Δ. start_rows Δ 0 G.clauses) whole) ∙
    ap (λ Δ. node Δ (reverse (labels_for (length O.binders) labels)) (start_sights (oldest_first (length Γ))) O.goal
    (start_rows Γ 0 G.clauses)) whole

-- ---- question by question
module _ (E : Env) (n : ℕ) (G : Group) (A : Term) (labels : List (Option (List ℕ))) where
  abbrev wide_asked : Asks (Unit {0})
  wide_asked = so_wide (width G.clauses) G.clauses

  abbrev full_asked : Asks (Unit {0})
  full_asked = clauses_full G.globals G.clauses

  abbrev pub opened_asked : Asks Opened
  opened_asked = opened G.first (width G.clauses) [] A

  abbrev pub grown_asked : Opened → Asks Grown
  grown_asked O = grow (all_constructors G.clauses) G (start G labels O) G.limit

  abbrev pub planned_with : Opened → Grown → Planned
  planned_with O g = record { opened = O.binders; tree = g.tree }

  abbrev by_opened : Opened → Asks Planned
  by_opened O = grown_asked O >>= (λ g. Ask.done (planned_with O g))

  abbrev by_full : Unit {0} → Asks Planned
  by_full u = opened_asked >>= by_opened

  abbrev by_wide : Unit {0} → Asks Planned
  by_wide u = full_asked >>= by_full

  pub wide-refused : (e : ElabError) → Refuses E n wide_asked e → Refuses E n (plan G A labels) e
  unfolding plan
  wide-refused e h = here E n wide_asked by_wide e h

  pub full-refused : (e : ElabError) → Reaches E n wide_asked tt → Refuses E n full_asked e →
      Refuses E n (plan G A labels) e
  unfolding plan
  full-refused e w h = later E n wide_asked by_wide e w (here E n full_asked by_full e h)

  pub opened-refused : (e : ElabError) → Reaches E n wide_asked tt → Reaches E n full_asked tt →
      Refuses E n opened_asked e → Refuses E n (plan G A labels) e
  unfolding plan
  opened-refused e w f h =
      later E n wide_asked by_wide e w (later E n full_asked by_full e f (here E n opened_asked by_opened e h))

  pub grown-refused : (O : Opened) (e : ElabError) → Reaches E n wide_asked tt → Reaches E n full_asked tt →
      Reaches E n opened_asked O → Refuses E n (grown_asked O) e → Refuses E n (plan G A labels) e
  unfolding plan
  grown-refused O e w f o h =
      later E n wide_asked by_wide e w
      (later E n full_asked by_full e f
      (later E n opened_asked by_opened e o
      (here E n (grown_asked O) (λ g. Ask.done (planned_with O g)) e h)))

  pub all-planned : (O : Opened) (g : Grown) → Reaches E n wide_asked tt → Reaches E n full_asked tt →
      Reaches E n opened_asked O → Reaches E n (grown_asked O) g → Reaches E n (plan G A labels) (planned_with O g)
  unfolding plan
  all-planned O g w f o h =
      on {E = E} {n = n} {m = wide_asked} by_wide w
      (on {E = E} {n = n} {m = full_asked} by_full f
      (on {E = E} {n = n} {m = opened_asked} by_opened o
      (on {E = E} {n = n} {m = grown_asked O} (λ g. Ask.done (planned_with O g)) h on_done)))

-- ---- the public call
module _ (G : Group) (n : ℕ) (A : Term) (labels : List (Option (List ℕ))) (bodies : BodiesClosed (env G.globals)) where
  ending : (r : Ending Refusal Place Planned) → within (env G.globals) n (plan G A labels) ≡ r →
      Says (env G.globals) n (plan G A labels) r
  ending r h =
      subst (λ r. Says (env G.globals) n (plan G A labels) r) h (says (env G.globals) n (plan G A labels))

  abbrev FailsSo : Cause → Place → Type 0
  FailsSo c w = Ends (env G.globals) (plan G A labels) (Ending.fails (refused c w))

  failed-so : (k : Kept) (w : Place) → Tells (env G.globals) n (plan G A labels) w k → WherePremise k w FailsSo
  failed-so (Kept.premise c) w h = ending (Ending.fails (refused c w)) h.is
  failed-so (Kept.question_of b q) w h = tt
  failed-so Kept.nothing w h = tt

  abbrev IsFalseSo : Cause → Place → Type 0
  IsFalseSo c w = Concludes (env G.globals) (plan G A labels) (Ending.fails (refused c w))

  false-so : (k : Kept) (w : Place) → WherePremise k w FailsSo → WherePremise k w IsFalseSo
  false-so (Kept.premise c) w h = conclude bodies h
  false-so (Kept.question_of b q) w h = tt
  false-so Kept.nothing w h = tt

  spent-so : (k : Kept) (w : Place) → Tells (env G.globals) n (plan G A labels) w k →
      WhereQuestion k w (λ w q. FirstSpent (env G.globals) n (plan G A labels) w q)
  spent-so (Kept.premise c) w h = tt
  spent-so (Kept.question_of b q) w h = ending (Ending.spent w q) h.is
  spent-so Kept.nothing w h = tt

  refusal-is-so : (r : ElabError) → Refuses (env G.globals) n (plan G A labels) r →
      WhereFails r FailsSo × WhereFails r IsFalseSo
      × WhereSpent r (λ w q. FirstSpent (env G.globals) n (plan G A labels) w q)
  refusal-is-so (error.Refused d s r k) h =
      let f = failed-so (kept d) (at s r k) h in
      (f, false-so (kept d) (at s r k) f, spent-so (kept d) (at s r k) h)
  refusal-is-so error.Memory h = (tt, tt, tt)

  pub plans-so : (r : Result code.Planned ElabError) → Gives (env G.globals) n (plan G A labels) planned_of r →
      Plans G n A labels r
  plans-so (Ok x) h = record {
    gives = h;
    sound = ending (Ending.ok (planned_of x)) h.is;
    failed = tt;
    false_so = tt;
    spent = tt;
  }
  plans-so (Err r) h =
      let so = refusal-is-so r h in
      record { gives = h; sound = tt; failed = so.0; false_so = so.1; spent = so.2 }
