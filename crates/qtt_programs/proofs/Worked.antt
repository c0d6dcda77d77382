-- The worked programs are well formed and complete, and their further runs.
use Rattle.std.specs.Prelude.{ℤ, pos, codes}
use Rattle.std.proofs.lemmas.Grind.{common_steps}
use Rattle.std.proofs.Common.{◌≡◌, ℕ, true, List, [], ◌∷◌, Some, refl, sym, subst, arith}
use Rattle.std.specs.Fmt.{digits}
use Rattle.std.specs.Str.{is_utf8, chars}
use lib.Utf8.{encode}
use Rattle.qtt_base.specs.declared.place.GlobalId.{GlobalId}
use Rattle.qtt_usage.specs.Mult.{𝟘, 𝟙, ω}
use Rattle.qtt_usage.specs.Uses.{zero_use}
use Rattle.qtt_term.specs.Term.{Io, Action, Form, Term, var, node, ε, ◌▸◌, Sort, Pi, Lam, App, Def, IntLit, TextLit, Act, Trap}
use Rattle.qtt_term.specs.Signature.{Family, Definition, Env, line_id, plain_constructor, plain_family, UnitTy, BoolTy, LineTy, IntTy, Refl}
use Rattle.qtt_term.specs.Contraction.{contract}
use Rattle.qtt_term.specs.Question.{same_form}
use Rattle.qtt_term.specs.Judgement.{Ctx, Part, Typed, Rule, TypedAll, Args, ParamsThenArgs}
use Rattle.qtt_term.specs.FullRun.{pure_unit}
use Rattle.qtt_term.specs.Positivity.{Good}
use Rattle.qtt_term.specs.Environment.{Types, TypesBeside, TypesUpTo, ConstructorFormed, ConstructorsFormed, FamilyFormed}
use Rattle.qtt_term.specs.Ask.{◌>>=◌, on_head, on_answer, within}
use Rattle.qtt_term.specs.Infer.{agree, sort_of, function_of, family_of, unbound}
use Rattle.qtt_term.specs.Premises.{need}
use Rattle.qtt_term.specs.Programs.{item, program, listed, many, io_unit, put, shown, added, bound, then_do, with_handle, opened_a, written, closed_after, box, one_by_zero, no_of_false, hello, identity, loops, forever, partial_no, handles, trapping, echo, shows, boxed, deletes}
use Rattle.qtt_programs.specs.Programs.{IsRunnable, tree, tree_family, same_family, choice, least_by_minus_one, greatest_and_one, two_lines, two_lines_items, doubling, doubling_items, counting, counting_items, false_proof, false_proof_items, closing_later, closing_later_items, overlapping, overlapping_items, deleting_type, deleting_body}
use Rattle.qtt_programs.specs.Worked.{WorkedPrograms, FurtherRuns}
use Rattle.qtt_programs.proofs.Runnable.{all_accepted, runnable}

-- ---- the families
int-typed : (E : Env) (Γ : Ctx) → Typed E Part.erased Γ IntTy (Sort 0) zero_use
int-typed E Γ = Typed.by_rule (Rule.named tt tt Args.none) TypedAll.none (λ x k. refl)

abbrev box_family : Family
box_family = plain_family (plain_constructor ((𝟘, IntTy) ∷ (𝟙, IntTy) ∷ []) ∷ [])

box-formed : FamilyFormed boxed (item 0) box_family
box-formed = record {
  params = Types.none;
  indices = TypesBeside.none;
  constructors = ConstructorsFormed.more (record {
    fields = TypesUpTo.more (int-typed boxed []) (omega arith) (λ e. e, tt)
        (TypesUpTo.more (int-typed boxed ((𝟘, IntTy) ∷ [])) (omega arith) (λ e. e, tt) TypesUpTo.none);
    one_each = refl;
    results = tt;
    no_tapes = tt;
  }) ConstructorsFormed.none;
  positive = ((Good.absent (refl, tt), (Good.absent (refl, tt), tt)), tt);
}

tree-typed : (Γ : Ctx) → Typed doubling Part.erased Γ tree (Sort 0) zero_use
tree-typed Γ = Typed.by_rule (Rule.fam tt (ParamsThenArgs.done Args.none)) TypedAll.none (λ x s. refl)

leaf-formed : ConstructorFormed doubling tree_family (plain_constructor [])
leaf-formed = record { fields = TypesUpTo.none; one_each = refl; results = tt; no_tapes = tt }

fork-formed : ConstructorFormed doubling tree_family (plain_constructor ((ω, tree) ∷ (ω, tree) ∷ []))
fork-formed = record {
  fields = TypesUpTo.more (tree-typed []) (omega arith) (λ e. e, tt)
      (TypesUpTo.more (tree-typed ((ω, tree) ∷ [])) (omega arith) (λ e. e, tt) TypesUpTo.none);
  one_each = refl;
  results = tt;
  no_tapes = tt;
}

tree-formed : FamilyFormed doubling (item 0) tree_family
tree-formed = record {
  params = Types.none;
  indices = TypesBeside.none;
  constructors = ConstructorsFormed.more leaf-formed (ConstructorsFormed.more fork-formed ConstructorsFormed.none);
  positive = (tt, ((Good.applied tt, (Good.applied tt, tt)), tt));
}

sort-typed : (E : Env) (Γ : Ctx) → Typed E Part.erased Γ (Sort 0) (Sort 1) zero_use
sort-typed E Γ = Typed.by_rule Rule.sort TypedAll.none (λ x k. refl)

same-formed : FamilyFormed false_proof (item 0) same_family
same-formed = record {
  params = Types.more (1, sort-typed false_proof []) (λ e. e, tt) Types.none;
  indices = TypesBeside.more (1, sort-typed false_proof ((𝟘, Sort 0) ∷ [])) (λ e. e, tt) TypesBeside.none;
  constructors = ConstructorsFormed.more
      (record { fields = TypesUpTo.none; one_each = refl; results = (omega arith, tt); no_tapes = (tt, tt) })
      ConstructorsFormed.none;
  positive = (tt, tt);
}

-- ---- the items of the programs
abbrev hello_items : List (ℕ × Definition)
hello_items = (0, many io_unit (put (TextLit (codes "hello")))) ∷ []

abbrev identity_items : List (ℕ × Definition)
identity_items = (0, many (Pi 𝟙 IntTy IntTy) (Lam 𝟙 IntTy (var 0))) ∷
    (1, many io_unit (put (shown (App 𝟙 (Def (item 0)) (IntLit (pos 3)))))) ∷ []

abbrev loops_items : List (ℕ × Definition)
loops_items =
    (0, many (Pi 𝟘 UnitTy IntTy) (Lam 𝟘 UnitTy (App 𝟘 (Def (item 0)) (var 0))))
    ∷ (1, many (Pi ω (Pi 𝟘 UnitTy IntTy) io_unit) (Lam ω (Pi 𝟘 UnitTy IntTy) (put (TextLit (codes "ok")))))
    ∷ (2, many io_unit (App ω (Def (item 1)) (Def (item 0)))) ∷ []

abbrev forever_items : List (ℕ × Definition)
forever_items = (0, many io_unit (then_do (put (TextLit (codes "x"))) (Def (item 0)))) ∷
    (1, many io_unit (Def (item 0))) ∷ []

abbrev partial_items : Term → Term → List (ℕ × Definition)
partial_items a b =
    (0, many (Pi ω BoolTy IntTy) (Lam ω BoolTy (choice (Trap IntTy) (IntLit (pos 1)) (var 0))))
    ∷ (1, many io_unit (put (shown (added a b)))) ∷ []

abbrev handles_items : List (ℕ × Definition)
handles_items = (
  0,
  many io_unit (with_handle opened_a
      (with_handle (written (var 0) (TextLit (codes "x")))
      (with_handle (written (var 0) (TextLit (codes "y"))) (closed_after (var 0))))),
) ∷ []

abbrev trapping_items : List (ℕ × Definition)
trapping_items = (
  0,
  many io_unit
      (with_handle opened_a (with_handle (written (var 0) (shown one_by_zero)) (closed_after (var 0)))),
) ∷ []

abbrev echo_items : List (ℕ × Definition)
echo_items = (
  0,
  many (Pi ω LineTy io_unit) (Lam ω LineTy (node (Form.case ω line_id 0 1 (0 ∷ 1 ∷ []))
      (io_unit ▸ pure_unit ▸ then_do (put (var 0)) (Def (item 1)) ▸ var 0 ▸ ε))),
)
    ∷ (
      1,
      many io_unit (bound Io.io Io.io LineTy UnitTy (Act Action.get_line 0 ε)
          (App ω (Def (item 0)) (var 0)) ω),
    ) ∷ []

abbrev shows_items : Term → List (ℕ × Definition)
shows_items t = (0, many io_unit (put (shown t))) ∷ []

abbrev boxed_items : List (ℕ × Definition)
boxed_items =
    (2, many box (node (Form.con (item 0) 0 0) (one_by_zero ▸ IntLit (pos 4) ▸ ε)))
    ∷ (3, many (Pi ω box io_unit) (Lam ω box (put (TextLit (codes "boxed")))))
    ∷ (4, many io_unit (App ω (Def (item 3)) (Def (item 2)))) ∷ []

abbrev deletes_items : List (ℕ × Definition)
deletes_items =
    (0, many deleting_type deleting_body)
    ∷ (
      1,
      many io_unit (put (shown
          (App ω (App 𝟘 (App 𝟘 (Def (item 0)) IntTy) (IntLit (pos 3))) (Refl IntTy (IntLit (pos 3)))))),
    ) ∷ []

-- ---- the programs
-- a program without families of its own
plain : (ds : List (ℕ × Definition)) (n : ℕ) → all_accepted (program [] ds) n ds ≡ true →
    (m : ℕ) (b : Term) → listed ds m ≡ Some (many io_unit b) →
    IsRunnable (program [] ds) (item m)
plain ds n a m b e = runnable [] ds n tt a tt m b e

pub programs-are-so : WorkedPrograms
unfolding contract same_form ◌>>=◌ on_head on_answer within need agree sort_of function_of family_of unbound
programs-are-so = record {
  hello = plain hello_items 0 refl 0 _ refl;
  identity = plain identity_items 0 refl 1 _ refl;
  loops = plain loops_items 0 refl 2 _ refl;
  forever = plain forever_items 0 refl 1 _ refl;
  zero_first = plain (partial_items one_by_zero no_of_false) 0 refl 1 _ refl;
  no_clause_first = plain (partial_items no_of_false one_by_zero) 0 refl 1 _ refl;
  handles = plain handles_items 0 refl 0 _ refl;
  trapping = plain trapping_items 0 refl 0 _ refl;
  echo = plain echo_items 0 refl 1 _ refl;
  least_by_minus_one = plain (shows_items least_by_minus_one) 0 refl 0 _ refl;
  greatest_and_one = plain (shows_items greatest_and_one) 0 refl 0 _ refl;
  divides_by_zero = plain (shows_items one_by_zero) 0 refl 0 _ refl;
  boxed = runnable ((0, box_family) ∷ []) boxed_items 0 ((refl, tt), tt) refl (box-formed, tt) 4 _ refl;
  deletes = plain deletes_items 0 refl 1 _ refl;
  two_lines = plain two_lines_items 0 refl 0 _ refl;
  doubling = runnable ((0, tree_family) ∷ []) doubling_items 0 ((refl, (refl, tt)), tt) refl (tree-formed, tt) 6 _ refl;
  counting = λ turns. plain (counting_items turns) 0 refl 1 _ refl;
  false_proof = runnable ((0, same_family) ∷ []) false_proof_items 0 ((refl, tt), tt) refl (same-formed, tt) 4 _ refl;
  closing_later = plain closing_later_items 0 refl 0 _ refl;
  overlapping = plain overlapping_items 0 refl 1 _ refl;
}

pub runs-are-so : FurtherRuns
unfolding contract digits is_utf8 chars encode
runs-are-so = record {
  false_proof_in_fifty = refl;
  closing_later_ends = refl;
  overlapping_ends = refl;
  two_lines_end = refl;
}

-- ---- the same of environments and ids that are equal to these
moved : (E P : Env) (m k : GlobalId) → E ≡ P → m ≡ k → IsRunnable P k → IsRunnable E m
moved E P m k e i r = subst (λ F. IsRunnable F m) (sym e) (subst (IsRunnable P) (sym i) r)

pub hello-runs : (E : Env) (m : GlobalId) → E ≡ hello → m ≡ item 0 → IsRunnable E m
hello-runs E m e i = moved E hello m (item 0) e i programs-are-so.hello

pub identity-runs : (E : Env) (m : GlobalId) → E ≡ identity → m ≡ item 1 → IsRunnable E m
identity-runs E m e i = moved E identity m (item 1) e i programs-are-so.identity

pub loops-runs : (E : Env) (m : GlobalId) → E ≡ loops → m ≡ item 2 → IsRunnable E m
loops-runs E m e i = moved E loops m (item 2) e i programs-are-so.loops

pub forever-runs : (E : Env) (m : GlobalId) → E ≡ forever → m ≡ item 1 → IsRunnable E m
forever-runs E m e i = moved E forever m (item 1) e i programs-are-so.forever

pub zero-first-runs : (E : Env) (m : GlobalId) → E ≡ partial_no one_by_zero no_of_false → m ≡ item 1 → IsRunnable E m
zero-first-runs E m e i = moved E (partial_no one_by_zero no_of_false) m (item 1) e i programs-are-so.zero_first

pub no-clause-first-runs : (E : Env) (m : GlobalId) → E ≡ partial_no no_of_false one_by_zero → m ≡ item 1 →
    IsRunnable E m
no-clause-first-runs E m e i =
    moved E (partial_no no_of_false one_by_zero) m (item 1) e i programs-are-so.no_clause_first

pub handles-runs : (E : Env) (m : GlobalId) → E ≡ handles → m ≡ item 0 → IsRunnable E m
handles-runs E m e i = moved E handles m (item 0) e i programs-are-so.handles

pub trapping-runs : (E : Env) (m : GlobalId) → E ≡ trapping → m ≡ item 0 → IsRunnable E m
trapping-runs E m e i = moved E trapping m (item 0) e i programs-are-so.trapping

pub echo-runs : (E : Env) (m : GlobalId) → E ≡ echo → m ≡ item 1 → IsRunnable E m
echo-runs E m e i = moved E echo m (item 1) e i programs-are-so.echo

pub least-by-minus-one-runs : (E : Env) (m : GlobalId) → E ≡ shows least_by_minus_one → m ≡ item 0 → IsRunnable E m
least-by-minus-one-runs E m e i = moved E (shows least_by_minus_one) m (item 0) e i programs-are-so.least_by_minus_one

pub greatest-and-one-runs : (E : Env) (m : GlobalId) → E ≡ shows greatest_and_one → m ≡ item 0 → IsRunnable E m
greatest-and-one-runs E m e i = moved E (shows greatest_and_one) m (item 0) e i programs-are-so.greatest_and_one

pub divides-by-zero-runs : (E : Env) (m : GlobalId) → E ≡ shows one_by_zero → m ≡ item 0 → IsRunnable E m
divides-by-zero-runs E m e i = moved E (shows one_by_zero) m (item 0) e i programs-are-so.divides_by_zero

pub boxed-runs : (E : Env) (m : GlobalId) → E ≡ boxed → m ≡ item 4 → IsRunnable E m
boxed-runs E m e i = moved E boxed m (item 4) e i programs-are-so.boxed

pub deletes-runs : (E : Env) (m : GlobalId) → E ≡ deletes → m ≡ item 1 → IsRunnable E m
deletes-runs E m e i = moved E deletes m (item 1) e i programs-are-so.deletes

pub two-lines-runs : (E : Env) (m : GlobalId) → E ≡ two_lines → m ≡ item 0 → IsRunnable E m
two-lines-runs E m e i = moved E two_lines m (item 0) e i programs-are-so.two_lines

pub doubling-runs : (E : Env) (m : GlobalId) → E ≡ doubling → m ≡ item 6 → IsRunnable E m
doubling-runs E m e i = moved E doubling m (item 6) e i programs-are-so.doubling

pub false-proof-runs : (E : Env) (m : GlobalId) → E ≡ false_proof → m ≡ item 4 → IsRunnable E m
false-proof-runs E m e i = moved E false_proof m (item 4) e i programs-are-so.false_proof

pub closing-later-runs : (E : Env) (m : GlobalId) → E ≡ closing_later → m ≡ item 0 → IsRunnable E m
closing-later-runs E m e i = moved E closing_later m (item 0) e i programs-are-so.closing_later

pub overlapping-runs : (E : Env) (m : GlobalId) → E ≡ overlapping → m ≡ item 1 → IsRunnable E m
overlapping-runs E m e i = moved E overlapping m (item 1) e i programs-are-so.overlapping

pub counting-runs : (E : Env) (m : GlobalId) (turns : ℤ) → E ≡ counting turns → m ≡ item 1 → IsRunnable E m
counting-runs E m turns e i = moved E (counting turns) m (item 1) e i (programs-are-so.counting turns)

-- what running the worked programs wants
pub ruleset runnables = (
  common_steps,
  hello-runs,
  identity-runs,
  loops-runs,
  forever-runs,
  zero-first-runs,
  no-clause-first-runs,
  handles-runs,
  trapping-runs,
  echo-runs,
  least-by-minus-one-runs,
  greatest-and-one-runs,
  divides-by-zero-runs,
  boxed-runs,
  deletes-runs,
  two-lines-runs,
  doubling-runs,
  false-proof-runs,
  closing-later-runs,
  overlapping-runs,
  counting-runs,
)
