-- The constructors of a split, tried one after another up to the first that is stuck.
use Rattle.std.proofs.Common.{◌≡◌, ◌∙◌, ℕ, suc, ◌+◌, ◌<◌, ◌≤◌, true, false, List, [], ◌∷◌, ◌++◌, length, get_or, map, drop, Some, refl, sym, ap, arith, append_assoc, append-nil}
use Rattle.std.proofs.lemmas.List.{map-append, drop_more, drop_all}
use mathlib.Core.Path.{fun_ext}
use Rattle.qtt_term.specs.declared.items.Constructor as code_constructor
use Rattle.qtt_term.specs.Term.{Term}
use Rattle.qtt_term.specs.Items.{constructor}
use Rattle.qtt_term.specs.Signature.{Env, Constructor, con_sig, con_sigs}
use Rattle.qtt_term.specs.Ask.{Ask, ◌>>=◌, Ending, within}
use Rattle.qtt_rules.specs.declared.errors.ElabError.{ElabError}
use Rattle.qtt_rules.specs.Refusal.{Cause}
use Rattle.qtt_rules.specs.Asks.{Asks}
use Rattle.qtt_unify.specs.declared.equations.Verdict as code_verdict
use Rattle.qtt_unify.specs.Equations.{Verdict, constructor_verdict}
use Rattle.qtt_unify.specs.View.{verdict}
use Rattle.qtt_unify.proofs.Within.{onward, within-then}
use Rattle.qtt_split.specs.Answers.{Reaches, Refuses}
use Rattle.qtt_split.specs.Divisions.{stuck_at_once}
use Rattle.qtt_split.specs.Split.{Division, results_of, or_stop, verdicts, first_stuck}
use Rattle.qtt_split.specs.Tests.{Test, at}
use Rattle.qtt_split.proofs.Binding.{changed-then, then-done}
use Rattle.qtt_split.proofs.Within.{past, here, refuses-alike}

-- lists that end the same go on the same
pub then-alike : {A B : Type 0} (E : Env) (n : ℕ) (m w : Asks A) (k : A → Asks B) → within E n m ≡ within E n w →
    within E n (m >>= k) ≡ within E n (w >>= k)
then-alike E n m w k e =
    within-then E n m k ∙ ap (λ x. onward x (λ a. within E n (k a))) e ∙ sym (within-then E n w k)

goes-on : (v : Verdict) (m : Asks (List Verdict)) → stuck_at_once v ≡ false →
    or_stop v m ≡ (m >>= (λ vs. Ask.done (v ∷ vs)))
goes-on (Verdict.solved s) m e = refl
goes-on Verdict.clash m e = refl
goes-on (Verdict.stuck k u t) m e = absurd (cc e)

stops : (v : Verdict) (m : Asks (List Verdict)) → stuck_at_once v ≡ true → or_stop v m ≡ Ask.done (v ∷ [])
stops (Verdict.solved s) m e = absurd (cc e)
stops Verdict.clash m e = absurd (cc e)
stops (Verdict.stuck k u t) m e = refl

module _ (E : Env) (n : ℕ) (D : Division) (k : ℕ) where
  -- of a constructor by its number
  abbrev pub asked : ℕ → Constructor → Asks Verdict
  asked i d =
      constructor_verdict E (at D.span Test.equations) D.over (length d.fields)
      (results_of D.over.params (con_sig D.family k i d))

  -- from number i on
  abbrev pub rest : ℕ → List Constructor → Asks (List Verdict)
  rest i ds = verdicts E D (con_sigs D.family k i ds)

  abbrev pub behind : List Verdict → List Verdict → Asks (List Verdict)
  behind vs ws = Ask.done (vs ++ ws)

  pub record VerdictsSoFar (ds : List code_constructor.Constructor) (i : ℕ) (vs : List code_verdict.Verdict) :
      Type 0 where
    pub is : within E n (rest 0 (map constructor ds))
        ≡ within E n (rest i (map constructor (drop i ds)) >>= behind (map verdict vs))

  pub none-tried : (ds : List code_constructor.Constructor) → VerdictsSoFar ds 0 []
  none-tried ds = record { is = sym (then-done E n (rest 0 (map constructor ds))) }

  -- at the next constructor
  turn : (ds : List code_constructor.Constructor) (i : ℕ) (vs : List code_verdict.Verdict)
      (d : code_constructor.Constructor) → i < length ds → d ≡ get_or ds i d → VerdictsSoFar ds i vs →
      within E n (rest 0 (map constructor ds))
      ≡ within E n ((asked i (constructor d) >>= (λ v. or_stop v (rest (i + 1) (map constructor (drop (i + 1) ds)))))
      >>= behind (map verdict vs))
  turn ds i vs d h e so =
      let next : suc i ≡ i + 1 = omega arith in
      so.is ∙
      ap (λ xs. within E n (rest i (map constructor xs) >>= behind (map verdict vs)))
      (drop_more ds i d h ∙ ap (λ y. y ∷ drop (i + 1) ds) (sym e)) ∙
      ap (λ j. within E n ((asked i (constructor d) >>=
      (λ v. or_stop v (rest j (map constructor (drop (i + 1) ds))))) >>= behind (map verdict vs))) next

  pub one-tried : (ds : List code_constructor.Constructor) (i : ℕ) (vs : List code_verdict.Verdict)
      (d : code_constructor.Constructor) (v : code_verdict.Verdict) → i < length ds → d ≡ get_or ds i d →
      Reaches E n (asked i (constructor d)) (verdict v) → stuck_at_once (verdict v) ≡ false →
      VerdictsSoFar ds i vs → VerdictsSoFar ds (i + 1) (vs ++ v ∷ [])
  one-tried ds i vs d v h e r s so =
      let others = rest (i + 1) (map constructor (drop (i + 1) ds)) in
      record {
        is =
            turn ds i vs d h e so ∙
            then-alike E n (asked i (constructor d) >>= (λ w. or_stop w others)) (or_stop (verdict v) others)
            (behind (map verdict vs)) (past E n (asked i (constructor d)) (λ w. or_stop w others) r) ∙
            ap (λ m. within E n (m >>= behind (map verdict vs))) (goes-on (verdict v) others s) ∙
            changed-then E n others (λ ws. verdict v ∷ ws) (behind (map verdict vs)) ∙
            ap (λ f. within E n (others >>= f))
            (fun_ext (λ (ws : List Verdict). ap (λ xs. Ask.done xs)
            (sym (append_assoc (map verdict vs) (verdict v ∷ []) ws) ∙
            ap (λ xs. xs ++ ws) (sym (map-append verdict vs (v ∷ []))))));
      }

  pub tried-stuck : (ds : List code_constructor.Constructor) (i : ℕ) (vs : List code_verdict.Verdict)
      (d : code_constructor.Constructor) (v : code_verdict.Verdict) → i < length ds → d ≡ get_or ds i d →
      Reaches E n (asked i (constructor d)) (verdict v) → stuck_at_once (verdict v) ≡ true →
      VerdictsSoFar ds i vs → Reaches E n (rest 0 (map constructor ds)) (map verdict (vs ++ v ∷ []))
  unfolding within ◌>>=◌
  tried-stuck ds i vs d v h e r s so =
      let others = rest (i + 1) (map constructor (drop (i + 1) ds)) in
      record {
        is =
            turn ds i vs d h e so ∙
            then-alike E n (asked i (constructor d) >>= (λ w. or_stop w others)) (or_stop (verdict v) others)
            (behind (map verdict vs)) (past E n (asked i (constructor d)) (λ w. or_stop w others) r) ∙
            ap (λ m. within E n (m >>= behind (map verdict vs))) (stops (verdict v) others s) ∙
            ap (λ xs. Ending.ok xs) (sym (map-append verdict vs (v ∷ [])));
      }

  pub try-refused : (ds : List code_constructor.Constructor) (i : ℕ) (vs : List code_verdict.Verdict)
      (d : code_constructor.Constructor) (r : ElabError) → i < length ds → d ≡ get_or ds i d →
      Refuses E n (asked i (constructor d)) r → VerdictsSoFar ds i vs → Refuses E n (rest 0 (map constructor ds)) r
  try-refused ds i vs d r h e f so =
      let others = rest (i + 1) (map constructor (drop (i + 1) ds)) in
      let here_asked = asked i (constructor d) >>= (λ v. or_stop v others) in
      refuses-alike E n (here_asked >>= behind (map verdict vs)) (rest 0 (map constructor ds)) r
      (turn ds i vs d h e so)
      (here E n here_asked (behind (map verdict vs)) r
      (here E n (asked i (constructor d)) (λ v. or_stop v others) r f))

  pub all-tried : (ds : List code_constructor.Constructor) (i : ℕ) (vs : List code_verdict.Verdict) →
      length ds ≤ i → VerdictsSoFar ds i vs → Reaches E n (rest 0 (map constructor ds)) (map verdict vs)
  unfolding within ◌>>=◌
  all-tried ds i vs h so = record {
    is =
        so.is ∙
        ap (λ xs. within E n (rest i (map constructor xs) >>= behind (map verdict vs))) (drop_all i ds h) ∙
        ap (λ xs. Ending.ok xs) (append-nil (map verdict vs));
  }

-- ---- the first that is stuck
pub not-stuck : (vs : List code_verdict.Verdict) (i : ℕ) (v : code_verdict.Verdict) → i < length vs →
    v ≡ get_or vs i v → stuck_at_once (verdict v) ≡ false →
    first_stuck (map verdict (drop i vs)) ≡ first_stuck (map verdict (drop (i + 1) vs))
not-stuck vs i v h e s =
    ap (λ xs. first_stuck (map verdict xs)) (drop_more vs i v h ∙ ap (λ y. y ∷ drop (i + 1) vs) (sym e)) ∙
    past_one (verdict v) (map verdict (drop (i + 1) vs)) s
  where
    past_one : (w : Verdict) (ws : List Verdict) → stuck_at_once w ≡ false → first_stuck (w ∷ ws) ≡ first_stuck ws
    past_one (Verdict.solved x) ws f = refl
    past_one Verdict.clash ws f = refl
    past_one (Verdict.stuck k u t) ws f = absurd (cc f)

pub found-stuck : (vs : List code_verdict.Verdict) (i : ℕ) (v : code_verdict.Verdict) (k : ℕ) (u t : Term) →
    i < length vs → v ≡ get_or vs i v → verdict v ≡ Verdict.stuck k u t →
    first_stuck (map verdict (drop i vs)) ≡ Some (Cause.pattern_stuck k u t)
found-stuck vs i v k u t h e s =
    ap (λ xs. first_stuck (map verdict xs)) (drop_more vs i v h ∙ ap (λ y. y ∷ drop (i + 1) vs) (sym e)) ∙
    ap (λ w. first_stuck (w ∷ map verdict (drop (i + 1) vs))) s
