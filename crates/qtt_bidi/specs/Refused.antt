-- Each premise of the rules of elaboration, false once: what is kept, and where. All texts stand on line 1.
use Rattle.std.specs.Prelude.{◌≡◌, pos, List, [], ◌∷◌, codes, Some, None}
use Rattle.qtt_base.specs.declared.place.Span.{Span}
use Rattle.qtt_usage.specs.declared.mult.Mult.{Mult}
use Rattle.qtt_usage.specs.Mult.{𝟘, 𝟙, ω}
use Rattle.qtt_syntax.specs.Tree.{Tree}
use Rattle.qtt_syntax.specs.Tree.Tree.{text, the, letting}
use Rattle.qtt_syntax.specs.Tree.Annotation.{untyped, typed}
use Rattle.qtt_syntax.specs.Tree.Statement.{run}
use Rattle.qtt_term.specs.Term.{Io, Form, Term, var, node, ε, ◌▸◌, Sort, Pi, Lam, App, Fam, Def, IntLit}
use Rattle.qtt_term.specs.Signature.{line_id, EqTy, Refl, IntTy, StringTy, IoTy}
use Rattle.qtt_term.specs.Judgement.{Part}
use Rattle.qtt_term.specs.Ask.{Question, Ending, within}
use Rattle.qtt_term.specs.declared.rule.Rule.TheVariants as rule
use Rattle.qtt_term.specs.Programs.{item, many, io_unit, nat}
use Rattle.qtt_term.specs.Entries.{Entries, env, prim_entries}
use Rattle.qtt_term.specs.Scope.{no_scope}
use Rattle.qtt_rules.specs.Refusal.{Cause}
use Rattle.qtt_rules.specs.Judged.{Judged, judged, Mode}
use Rattle.qtt_bidi.specs.Elaboration.{judge}
use Rattle.qtt_bidi.specs.Programs.{at, here, prim, main, int, string, digits, named, call, arrow, plainly, typed_as, fun, block, binds, entry, after_prim, naturals, identity, erased, circles, aliases}
use Rattle.qtt_bidi.specs.Rows.{Ended, checked, synthesised, gives, refuses, spends}

-- ---- expressions
-- \x => x
abbrev pub same_of : Tree
same_of = fun (plainly (codes "x") (at 1 2) ∷ []) (here 0 (codes "x") (at 1 7)) (at 1 1)

-- \(q x : A) => e
abbrev pub over : Mult → Tree → Tree → Tree
over q A e = fun (typed_as q (codes "x") A (at 1 2) ∷ []) e (at 1 1)

-- a name that stands for a term of this type, behind variables of these multiplicities, all of them Ints
abbrev pub ints : List Mult → List (Mult × Term)
ints [] = []
ints (q ∷ qs) = (q, IntTy) ∷ ints qs

abbrev pub standing : Part → List Mult → Term → Term → Ended Judged
standing p qs t A = within (env prim_entries) 0
    (judge prim_entries p (record { vars = ints qs; names = (t, A) ∷ [] }) Mode.synth (here 0 (codes "x") (at 1 1)))

-- Int -> 3, and 3 -> Int
abbrev pub bad_codomain : Tree
bad_codomain = arrow (int (at 1 1)) (digits 3 (at 1 8)) (at 1 1)

abbrev pub bad_domain : Tree
bad_domain = arrow (digits 3 (at 1 1)) (int (at 1 6)) (at 1 1)

-- id 1 2
abbrev pub two_arguments : Tree
two_arguments = call (main 0 (codes "id") (at 1 1)) (digits 1 (at 1 4) ∷ digits 2 (at 1 6) ∷ []) (at 1 1)

-- addInt 1
abbrev pub one_number : Tree
one_number = call (prim 15 (codes "addInt") (at 1 1)) (digits 1 (at 1 8) ∷ []) (at 1 1)

-- Int 3
abbrev pub int_of : Tree
int_of = call (int (at 1 1)) (digits 3 (at 1 5) ∷ []) (at 1 1)

-- pure e, and pure 1 2
abbrev pub pure_of : List Tree → Tree
pure_of es = call (prim 25 (codes "pure") (at 1 1)) es (at 1 1)

-- the 3 4
abbrev pub the_three : Tree
the_three = the (digits 3 (at 1 5)) (digits 4 (at 1 7)) (at 1 1)

-- let 1 x = 3 in 4, and let x : 3 = 4 in x
abbrev pub unused_let : Tree
unused_let = letting 𝟙 (named (codes "x") (at 1 7)) untyped (digits 3 (at 1 11)) (digits 4 (at 1 16)) (at 1 1)

abbrev pub let_of_three : Tree
let_of_three = letting ω (named (codes "x") (at 1 5)) (typed (digits 3 (at 1 9))) (digits 4 (at 1 13))
    (here 0 (codes "x") (at 1 18)) (at 1 1)

-- do x <- e; pure x
abbrev pub bound_to : Tree → Tree
bound_to e = block (binds (codes "x") (at 1 4) e ∷ run (pure_of (here 0 (codes "x") (at 1 20) ∷ [])) (at 1 15) ∷ [])
    (at 1 1)

abbrev pub get_line : Tree
get_line = prim 28 (codes "getLine") (at 1 9)

-- do open "a"; getLine: what is opened has no name
abbrev pub forgotten : Tree
forgotten = block (run (call (prim 29 (codes "open") (at 1 5)) (text (codes "a") (at 1 10) ∷ []) (at 1 5)) (at 1 4)
    ∷ run get_line (at 1 16) ∷ []) (at 1 1)

-- c, of type w, and the head of that
abbrev pub c : Span → Tree
c = main 2 (codes "c")

abbrev pub w_head : Question
w_head = Question.head_of 0 (Def (item 0))

-- Got s
abbrev pub got : Term → Term
got s = node (Form.con line_id 1 0) (s ▸ ε)

pub record RefusedRows : Type 0 where
  -- kind 14
  pub function_without_type : synthesised prim_entries 0 same_of ≡ refuses Cause.needs_type (at 1 1) rule.LamSynth 1
  pub constructor_with_parameters : synthesised prim_entries 0 (prim 14 (codes "Refl") (at 1 1))
      ≡ refuses Cause.needs_type (at 1 1) rule.ConSynth 1
  pub pure_synthesised : synthesised prim_entries 0 (pure_of (digits 1 (at 1 6) ∷ []))
      ≡ refuses Cause.needs_type (at 1 1) rule.Pure 1
  pub bind_synthesised : synthesised prim_entries 0 (bound_to get_line)
      ≡ refuses Cause.needs_type (at 1 1) rule.DoBind 1
  -- kind 15
  pub no_function_expected : checked prim_entries 0 IntTy same_of
      ≡ refuses (Cause.not_a_function 0 IntTy) (at 1 1) rule.LamCheck 1
  pub no_function_applied : synthesised identity 0 two_arguments
      ≡ refuses (Cause.not_a_function 0 IntTy) (at 1 1) rule.App 2
  -- kind 16
  pub domain_differs : checked prim_entries 0 (Pi ω IntTy IntTy) (over ω (string (at 1 7)) (digits 3 (at 1 20)))
      ≡ refuses (Cause.mismatch 0 IntTy StringTy) (at 1 1) rule.LamCheck 3
  pub result_differs : checked prim_entries 0 (EqTy IntTy (IntLit (pos 1)) (IntLit (pos 2)))
      (prim 14 (codes "Refl") (at 1 1))
      ≡ refuses (Cause.mismatch 0 (EqTy IntTy (IntLit (pos 1)) (IntLit (pos 2)))
      (EqTy IntTy (IntLit (pos 1)) (IntLit (pos 1)))) (at 1 1) rule.ConCheck 4
  pub found_differs : checked prim_entries 0 StringTy (digits 3 (at 1 1))
      ≡ refuses (Cause.mismatch 0 StringTy IntTy) (at 1 1) rule.Switch 2
  -- kind 17
  pub mark_differs : checked prim_entries 0 (Pi 𝟙 IntTy IntTy) (over ω (int (at 1 7)) (here 0 (codes "x") (at 1 15)))
      ≡ refuses (Cause.wrong_quantity 𝟙 ω) (at 1 1) rule.LamCheck 2
  -- kind 18
  pub unused_in_function : synthesised prim_entries 0 (over 𝟙 (int (at 1 7)) (digits 3 (at 1 15)))
      ≡ refuses (Cause.wrong_usage (Some (codes "x")) 𝟙 𝟘) (at 1 2) rule.LamSynth 4
  pub unused_in_checked : checked prim_entries 0 (Pi 𝟙 IntTy IntTy)
      (fun (plainly (codes "_") (at 1 2) ∷ []) (digits 3 (at 1 7)) (at 1 1))
      ≡ refuses (Cause.wrong_usage None 𝟙 𝟘) (at 1 2) rule.LamCheck 5
  pub unused_in_let : synthesised prim_entries 0 unused_let
      ≡ refuses (Cause.wrong_usage (Some (codes "x")) 𝟙 𝟘) (at 1 7) rule.Let 4
  pub unused_in_do : checked prim_entries 0 (IoTy Io.io (Fam (line_id) ε)) forgotten
      ≡ refuses (Cause.wrong_usage None 𝟙 𝟘) (at 1 5) rule.DoBind 6
  -- kind 19
  pub domain_no_type : synthesised prim_entries 0 bad_domain ≡ refuses (Cause.not_a_type 0 IntTy) (at 1 1) rule.Pi 1
  pub codomain_no_type : synthesised prim_entries 0 bad_codomain ≡ refuses (Cause.not_a_type 1 IntTy) (at 1 8) rule.Pi 2
  pub binder_no_type : synthesised prim_entries 0 (over ω (digits 3 (at 1 7)) (digits 4 (at 1 13)))
      ≡ refuses (Cause.not_a_type 0 IntTy) (at 1 7) rule.LamSynth 2
  pub written_no_type : checked prim_entries 0 (Pi ω IntTy IntTy) (over ω (digits 3 (at 1 7)) (digits 4 (at 1 13)))
      ≡ refuses (Cause.not_a_type 0 IntTy) (at 1 7) rule.LamCheck 3
  pub let_no_type : synthesised prim_entries 0 let_of_three ≡ refuses (Cause.not_a_type 0 IntTy) (at 1 9) rule.Let 1
  pub the_no_type : synthesised prim_entries 0 the_three ≡ refuses (Cause.not_a_type 0 IntTy) (at 1 5) rule.The 1
  -- kind 21
  pub family_arguments : synthesised prim_entries 0 (call (prim 13 (codes "Eq") (at 1 1)) (int (at 1 4) ∷ []) (at 1 1))
      ≡ refuses (Cause.wrong_arity 3 1) (at 1 1) rule.Family 1
  pub type_arguments : synthesised prim_entries 0 int_of ≡ refuses (Cause.wrong_arity 0 1) (at 1 1) rule.Family 1
  pub fields_synthesised : synthesised prim_entries 0 (prim 12 (codes "Got") (at 1 1))
      ≡ refuses (Cause.wrong_arity 1 0) (at 1 1) rule.ConSynth 2
  pub fields_checked : checked naturals 0 nat (main 2 (codes "S") (at 1 1))
      ≡ refuses (Cause.wrong_arity 1 0) (at 1 1) rule.ConCheck 2
  pub primitive_arguments : synthesised prim_entries 0 one_number ≡ refuses (Cause.wrong_arity 2 1) (at 1 1) rule.Prim 1
  pub action_arguments : synthesised prim_entries 0 (prim 27 (codes "putLine") (at 1 1))
      ≡ refuses (Cause.wrong_arity 1 0) (at 1 1) rule.Act 1
  pub pure_arguments : checked prim_entries 0 (IoTy Io.io IntTy) (pure_of (digits 1 (at 1 6) ∷ digits 2 (at 1 8) ∷ []))
      ≡ refuses (Cause.wrong_arity 1 2) (at 1 1) rule.Pure 3
  -- kind 22
  pub other_family : checked prim_entries 0 IntTy (prim 10 (codes "True") (at 1 1))
      ≡ refuses (Cause.not_a_family 0 IntTy) (at 1 1) rule.ConCheck 1
  -- kind 23; a name that stands for a Con of an erased variable is none, in the run part
  pub erased_definition : synthesised erased 0 (main 0 (codes "d") (at 1 1))
      ≡ refuses (Cause.erased_use 0 (Def (item 0))) (at 1 1) rule.Global 1
  pub erased_inside : standing Part.run (𝟘 ∷ []) (Refl IntTy (var 0)) (EqTy IntTy (var 0) (var 0))
      ≡ Ending.ok (judged (EqTy IntTy (var 0) (var 0)) (Refl IntTy (var 0)) (𝟘 ∷ []))
  pub erased_field : standing Part.run (𝟘 ∷ []) (node (Form.con (line_id) 1 0) (var 0 ▸ ε)) (Fam (line_id) ε)
      ≡ refuses (Cause.erased_use 1 (node (Form.con (line_id) 1 0) (var 0 ▸ ε))) (at 1 1) rule.Stands 1
  -- kind 35
  pub pure_of_no_action : checked prim_entries 0 IntTy (pure_of (digits 1 (at 1 6) ∷ []))
      ≡ refuses (Cause.not_an_action 0 IntTy) (at 1 1) rule.Pure 2
  pub pure_of_io1 : checked prim_entries 0 (IoTy Io.io1 IntTy) (pure_of (digits 1 (at 1 6) ∷ []))
      ≡ refuses (Cause.not_an_action 0 (IoTy Io.io1 IntTy)) (at 1 1) rule.Pure 2
  pub block_of_no_action : checked prim_entries 0 IntTy (bound_to get_line)
      ≡ refuses (Cause.not_an_action 0 IntTy) (at 1 1) rule.DoBind 2
  pub no_action_bound : checked prim_entries 0 (IoTy Io.io IntTy) (bound_to (digits 3 (at 1 9)))
      ≡ refuses (Cause.not_an_action 0 IntTy) (at 1 9) rule.DoBind 4
  -- kind 24 at heads
  pub function_spent : checked circles 5 (Def (item 0)) same_of ≡ spends w_head (at 1 1) rule.LamCheck 1
  pub applied_spent : synthesised circles 5 (call (c (at 1 1)) (digits 3 (at 1 3) ∷ []) (at 1 1))
      ≡ spends w_head (at 1 1) rule.App 2
  pub domain_spent : synthesised circles 5 (arrow (c (at 1 1)) (int (at 1 6)) (at 1 1))
      ≡ spends w_head (at 1 1) rule.Pi 1
  pub family_spent : checked circles 5 (Def (item 0)) (prim 10 (codes "True") (at 1 1))
      ≡ spends w_head (at 1 1) rule.ConCheck 1
  pub pure_spent : checked circles 5 (Def (item 0)) (pure_of (digits 1 (at 1 6) ∷ []))
      ≡ spends w_head (at 1 1) rule.Pure 2
  pub block_spent : checked circles 5 (Def (item 0)) (bound_to get_line) ≡ spends w_head (at 1 1) rule.DoBind 2
  pub action_spent : checked circles 5 (IoTy Io.io IntTy) (bound_to (c (at 1 9))) ≡ spends w_head (at 1 9) rule.DoBind 4
  -- a question of the core judgement of a term that a name stands for: it has the type w, where a Line wants a String
  pub term_spent : within (env circles) 5
      (judge circles Part.run (record { vars = []; names = (got (Def (item 2)), Fam line_id ε) ∷ [] }) Mode.synth
      (here 0 (codes "x") (at 1 1)))
      ≡ spends (Question.compared 0 (Def (item 0)) StringTy) (at 1 1) rule.Stands 1

-- ---- points where a rule leaves a choice
-- a : Type; a = IO Unit, as item 0
abbrev pub io_alias : Entries
io_alias = after_prim [] (entry 0 (codes "a") (many (Sort 0) io_unit) ∷ [])

-- do putLine "a"; True
abbrev pub ends_in_truth : Tree
ends_in_truth = block
    (run (call (prim 27 (codes "putLine") (at 1 4)) (text (codes "a") (at 1 12) ∷ []) (at 1 4)) (at 1 4)
    ∷ run (prim 10 (codes "True") (at 1 17)) (at 1 17) ∷ []) (at 1 1)

-- \(0 y : Int) => let 0 x = y in 3
abbrev pub erased_value : Tree
erased_value =
    fun (typed_as 𝟘 (codes "y") (int (at 1 9)) (at 1 2) ∷ [])
    (letting 𝟘 (named (codes "x") (at 1 24)) untyped (here 0 (codes "y") (at 1 28)) (digits 3 (at 1 33)) (at 1 18))
    (at 1 1)

pub record ChoiceRows : Type 0 where
  -- \x y => x: a later binder has the place of the `\`
  pub later_binder : checked prim_entries 0 (Pi ω IntTy IntTy)
      (fun (plainly (codes "x") (at 1 2) ∷ plainly (codes "y") (at 1 4) ∷ []) (here 1 (codes "x") (at 1 9)) (at 1 1))
      ≡ refuses (Cause.not_a_function 1 IntTy) (at 1 1) rule.LamCheck 1
  -- \(x : 3) y => 4: all binders are looked at for a type before the first domain is judged
  pub types_first : synthesised prim_entries 0
      (fun (typed_as ω (codes "x") (digits 3 (at 1 7)) (at 1 2) ∷ plainly (codes "y") (at 1 10) ∷ [])
      (digits 4 (at 1 15)) (at 1 1))
      ≡ refuses Cause.needs_type (at 1 1) rule.LamSynth 1
  -- the core keeps the domain of the function type, not the written one
  pub domain_kept : checked aliases 1 (Pi ω (Def (item 0)) IntTy) (over ω (int (at 1 7)) (digits 3 (at 1 15)))
      ≡ gives (Pi ω (Def (item 0)) IntTy) (Lam ω (Def (item 0)) (IntLit (pos 3)))
  -- the rest of a `do` is checked against the expected type as it is given, and a refusal keeps that
  pub rest_as_given : checked io_alias 5 (Def (item 0)) ends_in_truth
      ≡ refuses (Cause.not_a_family 1 (Def (item 0))) (at 1 17) rule.ConCheck 1
  -- do x <- pure 1; pure x: an action is synthesised, and pure is not
  pub pure_bound : checked prim_entries 0 (IoTy Io.io IntTy)
      (bound_to (call (prim 25 (codes "pure") (at 1 9)) (digits 1 (at 1 14) ∷ []) (at 1 9)))
      ≡ refuses Cause.needs_type (at 1 9) rule.Pure 1
  -- the value of a `let` at 0 is judged in the erased part
  pub erased_let : synthesised prim_entries 0 erased_value
      ≡ gives (Pi 𝟘 IntTy IntTy) (Lam 𝟘 IntTy (App 𝟘 (Lam 𝟘 IntTy (IntLit (pos 3))) (var 0)))
  -- in the erased part no use is tested
  pub erased_part : within (env prim_entries) 0
      (judge prim_entries Part.erased no_scope Mode.synth (over 𝟙 (int (at 1 7)) (digits 3 (at 1 15))))
      ≡ gives (Pi 𝟙 IntTy IntTy) (Lam 𝟙 IntTy (IntLit (pos 3)))
