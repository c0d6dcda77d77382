-- Worked examples of elaboration. A clause `f x = e` is played as `\x => e`, whose `\` and binder stand where its
-- variable does.
use Rattle.std.specs.Prelude.{◌≡◌, ℕ, pos, List, [], ◌∷◌, codes, Some}
use Rattle.qtt_base.specs.declared.place.Span.{Span}
use Rattle.qtt_usage.specs.declared.mult.Mult.{Mult}
use Rattle.qtt_usage.specs.Mult.{𝟘, 𝟙, ω}
use Rattle.qtt_syntax.specs.Tree.{Tree, Statement}
use Rattle.qtt_syntax.specs.Tree.Tree.{text}
use Rattle.qtt_syntax.specs.Tree.Annotation.{typed}
use Rattle.qtt_syntax.specs.Tree.Statement.{local, run}
use Rattle.qtt_term.specs.Term.{Term, var, Pi, Lam, App, Def, IntLit, TextLit}
use Rattle.qtt_term.specs.Signature.{UnitTy, MkUnit, EqTy, Refl, IntTy, StringTy}
use Rattle.qtt_term.specs.Judgement.{Part}
use Rattle.qtt_term.specs.Ask.{Question, Ending, within}
use Rattle.qtt_term.specs.declared.rule.Rule.{Rule}
use Rattle.qtt_term.specs.declared.rule.Rule.TheVariants as rule
use Rattle.qtt_term.specs.Programs.{item, io_unit, put, shown, with_handle, opened_a, written, closed_after, nat, z, s, plus}
use Rattle.qtt_term.specs.Entries.{Entries, env, prim_entries}
use Rattle.qtt_term.specs.Scope.{no_scope}
use Rattle.qtt_rules.specs.Refusal.{Cause, Place, Refusal, refused}
use Rattle.qtt_rules.specs.Judged.{Judged, judged, Mode}
use Rattle.qtt_rules.specs.Refusal as refusal
use Rattle.qtt_bidi.specs.Elaboration.{judge}
use Rattle.qtt_bidi.specs.Programs.{at, here, prim, main, digits, call, arrow, plainly, fun, block, binds, naturals, identity, circles, aliases}

abbrev pub Ended : Type 0 → Type 0
Ended A = Ending Refusal Place A

-- an expression under no binder, where each question has n contractions
abbrev pub checked : Entries → ℕ → Term → Tree → Ended Judged
checked G n A e = within (env G) n (judge G Part.run no_scope (Mode.check A) e)

abbrev pub synthesised : Entries → ℕ → Tree → Ended Judged
synthesised G n e = within (env G) n (judge G Part.run no_scope Mode.synth e)

-- a type and a core
abbrev pub gives : Term → Term → Ended Judged
gives A t = Ending.ok (judged A t [])

abbrev pub refuses : {A : Type 0} → Cause → Span → Rule → ℕ → Ended A
refuses c s r k = Ending.fails (refused c (refusal.at s r k))

abbrev pub spends : {A : Type 0} → Question → Span → Rule → ℕ → Ended A
spends q s r k = Ending.spent (refusal.at s r k) q

-- ---- the worked rows
-- id x = x
abbrev pub id_side : Tree
id_side = fun (plainly (codes "x") (at 3 4) ∷ []) (here 0 (codes "x") (at 3 8)) (at 3 4)

-- putLine (showInt (id 3))
abbrev pub id_main : Tree
id_main =
    call (prim 27 (codes "putLine") (at 5 8))
    (call (prim 24 (codes "showInt") (at 5 17))
    (call (main 0 (codes "id") (at 5 26)) (digits 3 (at 5 29) ∷ []) (at 5 26) ∷ []) (at 5 17) ∷ []) (at 5 8)

-- bad x = 3
abbrev pub bad_side : Tree
bad_side = fun (plainly (codes "x") (at 3 5) ∷ []) (digits 3 (at 3 9)) (at 3 5)

-- pick False h = 0
abbrev pub pick_side : Tree
pick_side = fun (plainly (codes "h") (at 4 12) ∷ []) (digits 0 (at 4 16)) (at 4 12)

-- f x = x; g x = Refl
abbrev pub erased_side : Tree
erased_side = fun (plainly (codes "x") (at 3 3) ∷ []) (here 0 (codes "x") (at 3 7)) (at 3 3)

abbrev pub refl_side : Tree
refl_side = fun (plainly (codes "x") (at 3 3) ∷ []) (prim 14 (codes "Refl") (at 3 7)) (at 3 3)

-- same : (n : Nat) -> (m : Nat) -> Eq Nat (plus (S n) m) (S (plus n m)); same n m = Refl
abbrev pub same_type : Term
same_type = Pi ω nat (Pi ω nat (EqTy nat (plus (s (var 1)) (var 0)) (s (plus (var 1) (var 0)))))

abbrev pub same_side : Tree
same_side = fun (plainly (codes "n") (at 9 6) ∷ plainly (codes "m") (at 9 8) ∷ []) (prim 14 (codes "Refl") (at 9 12))
    (at 9 6)

-- same : (n : Nat) -> Eq Nat (plus n Z) n; same n = Refl
abbrev pub zero_side : Tree
zero_side = fun (plainly (codes "n") (at 9 6) ∷ []) (prim 14 (codes "Refl") (at 9 10)) (at 9 6)

-- f : v -> w; f y = y
abbrev pub circle_side : Tree
circle_side = fun (plainly (codes "y") (at 7 3) ∷ []) (here 0 (codes "y") (at 7 7)) (at 7 3)

-- main = do, and statements from line 4 on, of which the first is h <- open "a"
abbrev pub with_open : List Statement → Tree
with_open ss = block (binds (codes "h") (at 4 3)
    (call (prim 29 (codes "open") (at 4 8)) (text (codes "a") (at 4 13) ∷ []) (at 4 8)) ∷ ss) (at 3 8)

-- x <- write h s, where h is the newest name; close h
abbrev pub writes : ℕ → List ℕ → List ℕ → List ℕ → Statement
writes l x h v = binds x (at l 3)
    (call (prim 30 (codes "write") (at l 9)) (here 0 h (at l 15) ∷ text v (at l 18) ∷ []) (at l 9))

abbrev pub closes : ℕ → List ℕ → Statement
closes l h = run (call (prim 31 (codes "close") (at l 3)) (here 0 h (at l 9) ∷ []) (at l 3)) (at l 3)

abbrev pub handles : Tree
handles = with_open (writes 5 (codes "h2") (codes "h") (codes "x") ∷ writes 6 (codes "h3") (codes "h2") (codes "y")
    ∷ closes 7 (codes "h3") ∷ [])

abbrev pub never_closed : Tree
never_closed = with_open
    (run (call (prim 25 (codes "pure") (at 5 3)) (prim 8 (codes "MkUnit") (at 5 8) ∷ []) (at 5 3)) (at 5 3) ∷ [])

abbrev pub closed_twice : Tree
closed_twice = with_open (closes 5 (codes "h") ∷ closes 6 (codes "h") ∷ [])

-- let f : Unit -> IO Unit = \u => close h; f MkUnit
abbrev pub closed_in : Mult → Tree
closed_in q = with_open (
    local q (record { name = codes "f"; span = at 5 7 })
    (typed (arrow (prim 3 (codes "Unit") (at 5 11))
    (call (prim 6 (codes "IO") (at 5 19)) (prim 3 (codes "Unit") (at 5 22) ∷ []) (at 5 19)) (at 5 11)))
    (fun (plainly (codes "u") (at 5 30) ∷ [])
    (call (prim 31 (codes "close") (at 5 35)) (here 1 (codes "h") (at 5 41) ∷ []) (at 5 35)) (at 5 29)) (at 5 3)
    ∷ run (call (here 0 (codes "f") (at 6 3)) (prim 8 (codes "MkUnit") (at 6 5) ∷ []) (at 6 3)) (at 6 3) ∷ [])

pub record WorkedRows : Type 0 where
  pub id_accepted : checked prim_entries 0 (Pi 𝟙 IntTy IntTy) id_side ≡ gives (Pi 𝟙 IntTy IntTy) (Lam 𝟙 IntTy (var 0))
  pub id_in_main : checked identity 0 io_unit id_main
      ≡ gives io_unit (put (shown (App 𝟙 (Def (item 0)) (IntLit (pos 3)))))
  pub bad_refused : checked prim_entries 0 (Pi 𝟙 IntTy IntTy) bad_side
      ≡ refuses (Cause.wrong_usage (Some (codes "x")) 𝟙 𝟘) (at 3 5) rule.LamCheck 5
  pub pick_refused : checked prim_entries 0 (Pi 𝟙 IntTy IntTy) pick_side
      ≡ refuses (Cause.wrong_usage (Some (codes "h")) 𝟙 𝟘) (at 4 12) rule.LamCheck 5
  pub erased_used : checked prim_entries 0 (Pi 𝟘 IntTy IntTy) erased_side
      ≡ refuses (Cause.erased_use 1 (var 0)) (at 3 7) rule.Var 1
  pub erased_in_type : checked prim_entries 0 (Pi 𝟘 IntTy (EqTy IntTy (var 0) (var 0))) refl_side
      ≡ gives (Pi 𝟘 IntTy (EqTy IntTy (var 0) (var 0))) (Lam 𝟘 IntTy (Refl IntTy (var 0)))
  -- delta, beta, beta, iota
  pub same_in_four : checked naturals 4 same_type same_side
      ≡ gives same_type (Lam ω nat (Lam ω nat (Refl nat (plus (s (var 1)) (var 0)))))
  pub same_in_three : checked naturals 3 same_type same_side
      ≡ spends (Question.compared 2 (EqTy nat (plus (s (var 1)) (var 0)) (plus (s (var 1)) (var 0)))
      (EqTy nat (plus (s (var 1)) (var 0)) (s (plus (var 1) (var 0))))) (at 9 12) rule.ConCheck 4
  pub zero_refused : checked naturals 1000 (Pi ω nat (EqTy nat (plus (var 0) z) (var 0))) zero_side
      ≡ refuses (Cause.mismatch 1 (EqTy nat (plus (var 0) z) (var 0)) (EqTy nat (plus (var 0) z) (plus (var 0) z)))
      (at 9 10) rule.ConCheck 4
  pub circles_in_ten : checked circles 10 (Pi ω (Def (item 1)) (Def (item 0))) circle_side
      ≡ spends (Question.compared 1 (Def (item 1)) (Def (item 0))) (at 7 7) rule.Switch 2
  -- the question takes 11 deltas
  pub aliases_in_eleven : checked aliases 11 (Def (item 10)) (digits 3 (at 25 5))
      ≡ gives (Def (item 10)) (IntLit (pos 3))
  pub aliases_in_ten : checked aliases 10 (Def (item 10)) (digits 3 (at 25 5))
      ≡ spends (Question.compared 0 IntTy (Def (item 10))) (at 25 5) rule.Switch 2
  pub handles_accepted : checked prim_entries 0 io_unit handles
      ≡ gives io_unit (with_handle opened_a
      (with_handle (written (var 0) (TextLit (codes "x")))
      (with_handle (written (var 0) (TextLit (codes "y"))) (closed_after (var 0)))))
  pub never_closed_refused : checked prim_entries 0 io_unit never_closed
      ≡ refuses (Cause.wrong_usage (Some (codes "h")) 𝟙 𝟘) (at 4 3) rule.DoBind 6
  pub closed_twice_refused : checked prim_entries 0 io_unit closed_twice
      ≡ refuses (Cause.wrong_usage (Some (codes "h")) 𝟙 ω) (at 4 3) rule.DoBind 6
  pub closed_in_many_refused : checked prim_entries 0 io_unit (closed_in ω)
      ≡ refuses (Cause.wrong_usage (Some (codes "h")) 𝟙 ω) (at 4 3) rule.DoBind 6
  pub closed_in_one_accepted : checked prim_entries 0 io_unit (closed_in 𝟙)
      ≡ gives io_unit (with_handle opened_a
      (App 𝟙 (Lam 𝟙 (Pi ω UnitTy io_unit) (App ω (var 0) MkUnit)) (Lam ω UnitTy (closed_after (var 1)))))
  pub text_is_no_number : checked prim_entries 0 IntTy (text (codes "a") (at 3 5))
      ≡ refuses (Cause.mismatch 0 IntTy StringTy) (at 3 5) rule.Switch 2
