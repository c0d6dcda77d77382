-- The trees of generated modules have the forms that the grammar asks for.
use Rattle.std.proofs.Common.{◌≡◌, ℕ, zero, suc, ◌<◌, ◌≤◌, ◌^◌, nat_le, ℤ, pos, negsuc, Bool, true, false, cond, List, [], ◌∷◌, map, codes, refl, ap, ◌∙◌, arith, w64, FitsSigned}
use Rattle.qtt_base.specs.Limits.{standard, limit_of}
use Rattle.qtt_base.specs.declared.limits.Quantity.{Quantity}
use Rattle.qtt_base.specs.declared.limits.Quantity.TheVariants as quantity
use Rattle.qtt_usage.specs.Mult.{ω}
use Rattle.qtt_syntax.specs.declared.expr.Mark.TheVariants.{Written}
use Rattle.qtt_syntax.specs.Tree.{Tree, Item, shapes}
use Rattle.qtt_syntax.specs.Tree.Tree.{pi}
use Rattle.qtt_syntax.specs.Tree.Shape.{variable}
use Rattle.qtt_syntax.specs.Tree.Item.{clause}
use Rattle.qtt_syntax.specs.Words.{Word}
use Rattle.qtt_grammar.specs.declared.class.Pass.{Pass}
use Rattle.qtt_grammar.specs.declared.class.Pass.TheVariants.{Counts, Free}
use Rattle.qtt_grammar.specs.Classes.{is_name, is_simple}
use Rattle.qtt_grammar.specs.Limits.{is_full}
use Rattle.qtt_grammar.specs.Grammar.{Place, start, clauses_before, same_name}
use Rattle.qtt_grammar.specs.declared.class.Class.TheVariants as class
use Rattle.qtt_reprint.specs.Sketch.{named_class}
use Rattle.qtt_reprint.proofs.FairTexts.{wild}
use Rattle.qtt_reprint.proofs.Formed as formed
use Rattle.qtt_reprint.proofs.Formed.{Plain, need}
use Rattle.qtt_reprint.proofs.Steps.{Fit, Named_well}
use Rattle.qtt_gen.specs.Generated.{below, next, constant, module_name, function_name, proof_name, value}
use Rattle.qtt_gen.specs.Canonical.{nowhere, used, call, literal, int as int_tree, typed, imports, import_names, tree_of_step, tree_of_side, proof_type, module_tree, tree_of_line, main_clause, main_tree}
use Rattle.qtt_gen_laws.proofs.Lengths.{Small, next_small}
use Rattle.qtt_gen_laws.proofs.Named.{Named_as, int, eq, refl_word, add_int, mul_int, x_word, main_small, main_big, io, unit, put_line, show_int, module_named, function_named, proof_named}
use Rattle.qtt_gen_laws.proofs.Values.{value_fits}

-- ---- numbers

fits : (z : ℤ) → FitsSigned w64 z → Fit (Word.numeral z)
fits (pos n) f = f.sfits
fits (negsuc n) f = let h = f.sfits in omega (arith, h)

-- all numbers of a module's text are numbers of 64 bits with a sign
pub record Within (i j : ℕ) : Type 0 where
  pub small : Small i j
  pub constant : constant i j < 2 ^ 63

-- behind so many items, of which the last one is a signature
abbrev behind_type : ℕ → Place
behind_type n = record { at_imports = false; items = n; clauses_of = []; clauses = 0 }

module _ (pass : Pass) where
  abbrev Whole : Tree → Type 0
  Whole t = formed.Formed Fit pass t × Plain t

  -- ---- counts

  room : (q : Quantity) (n : ℕ) → nat_le (limit_of standard q) n ≡ false → is_full pass q n ≡ false
  room q n e = by pass
    where
      by : (p : Pass) → is_full p q n ≡ false
      by Counts = e
      by Free = refl

  -- no clause stands before
  clauses_left : (b : Bool) → is_full pass quantity.Clauses (cond b 0 0) ≡ false
  clauses_left true = room quantity.Clauses 0 refl
  clauses_left false = room quantity.Clauses 0 refl

  -- ---- expressions

  used_formed : (n : List ℕ) → is_name (named_class n) ≡ true → Named_well n → Whole (used n)
  used_formed n e w = ((refl, (e, w)), refl)

  literal_formed : (z : ℤ) → Fit (Word.numeral z) → Whole (literal z)
  literal_formed z f = (f, refl)

  one : (f : List ℕ) (t : Tree) → Whole (used f) → Whole t → Whole (call f (t ∷ []))
  one f t h a = ((h, (refl, (a, tt))), refl)

  two : (f : List ℕ) (t u : Tree) → Whole (used f) → Whole t → Whole u → Whole (call f (t ∷ u ∷ []))
  two f t u h a b = ((h, (refl, (a, (b, tt)))), refl)

  three : (f : List ℕ) (t u v : Tree) → Whole (used f) → Whole t → Whole u → Whole v → Whole (call f (t ∷ u ∷ v ∷ []))
  three f t u v h a b c = ((h, (refl, (a, (b, (c, tt))))), refl)

  int_formed : Whole int_tree
  int_formed = used_formed (codes "Int") refl int

  function_formed : (i j : ℕ) → i < 2 ^ 64 → j < 2 ^ 64 → Whole (used (function_name i j))
  function_formed i j h k = let n = function_named i j h k in used_formed (function_name i j) (rw n.class refl) n.well

  step_formed : (i j : ℕ) → constant i j < 2 ^ 63 → Whole (tree_of_step i j)
  step_formed i j h =
      two (codes "addInt") (call (codes "mulInt") (used (codes "x") ∷ literal (pos 3) ∷ [])) (literal (pos (constant i j)))
      (used_formed (codes "addInt") refl add_int)
      (two (codes "mulInt") (used (codes "x")) (literal (pos 3)) (used_formed (codes "mulInt") refl mul_int)
      (used_formed (codes "x") refl x_word) (literal_formed (pos 3) (omega arith)))
      (literal_formed (pos (constant i j)) h)

  side_formed : (i j : ℕ) → Within i j → Whole (tree_of_side i j)
  side_formed zero j w = step_formed 0 j w.constant
  side_formed (suc i) j w =
      let h = w.small.first in
      one (function_name i (next j)) (tree_of_step (suc i) j)
      (function_formed i (next j) (omega (arith, h)) (next_small j)) (step_formed (suc i) j w.constant)

  side_need : (i j : ℕ) → need (tree_of_side i j) ≤ 200
  side_need zero j = omega arith
  side_need (suc i) j = omega arith

  equation_formed : (v : ℤ) (f : List ℕ) → Whole (used f) → FitsSigned w64 v →
      Whole (call (codes "Eq") (int_tree ∷ call f (literal (pos 0) ∷ []) ∷ literal v ∷ []))
  equation_formed v f h g =
      three (codes "Eq") int_tree (call f (literal (pos 0) ∷ [])) (literal v) (used_formed (codes "Eq") refl eq) int_formed
      (one f (literal (pos 0)) h (literal_formed (pos 0) (omega arith))) (literal_formed v (fits v g))

  -- ---- items

  abbrev Item_formed : Place → Item → Type 0
  Item_formed = formed.Item_formed Fit pass 200 199

  -- a name of one part, of an item
  abbrev Defines : List ℕ → Type 0
  Defines n = formed.Named Fit pass is_simple n

  small_name : (n : List ℕ) → Named_as class.Small n → Defines n
  small_name n a = (rw a.class refl, a.well)

  no_clauses : (at : Place) (n : List ℕ) → at.clauses ≡ 0 → is_full pass quantity.Clauses (clauses_before at n) ≡ false
  no_clauses at n e =
      ap (λ (k : ℕ). is_full pass quantity.Clauses (cond (same_name at.clauses_of n) k 0)) e ∙
      clauses_left (same_name at.clauses_of n)

  function_type : (n : List ℕ) → Defines n → (at : Place) →
      Item_formed at (typed n (pi Written ω (codes "_") int_tree int_tree nowhere))
  function_type n d at = (refl, (d, ((((refl, wild), (int_formed, int_formed)), refl), omega arith)))

  function_clause : (i j : ℕ) (n : List ℕ) → Within i j → Defines n → (at : Place) → at.clauses ≡ 0 →
      Item_formed at (clause n (variable Written (codes "x") nowhere ∷ []) (tree_of_side i j) nowhere)
  function_clause i j n w d at e =
      let argument : formed.Shapes_formed Fit pass 0 (shapes (variable Written (codes "x") nowhere ∷ [])) =
      (room quantity.Parts 0 refl, ((refl, (refl, x_word)), tt)) in
      (d, (no_clauses at n e, ((argument, omega arith), ((side_formed i j w).0, side_need i j))))

  proof_signature : (v : ℤ) (f p : List ℕ) → Whole (used f) → FitsSigned w64 v → Defines p → (at : Place) →
      Item_formed at (proof_type v f p)
  proof_signature v f p h g d at = (refl, (d, (equation_formed v f h g, omega arith)))

  proof_clause : (p : List ℕ) → Defines p → (at : Place) → at.clauses ≡ 0 →
      Item_formed at (clause p [] (used (codes "Refl")) nowhere)
  proof_clause p d at e =
      (d, (no_clauses at p e, ((tt, omega arith), ((used_formed (codes "Refl") refl refl_word).0, omega arith))))

  -- ---- modules

  imported : (i j : ℕ) → i < 2 ^ 64 → j < 2 ^ 64 → formed.Named Fit pass is_name (module_name i j)
  imported i j h k = let m = module_named i j h k in (rw m.class refl, m.well)

  imports_formed : (i j : ℕ) → Within i j → formed.Imports_formed Fit pass (imports (import_names i j))
  imports_formed zero j w = tt
  imports_formed (suc i) j w =
      let h = w.small.first in (imported i (next j) (omega (arith, h)) (next_small j), tt)

  pub module_formed : (i j : ℕ) → Within i j → formed.Module_formed Fit pass 200 199 (module_tree i j)
  module_formed i j w =
      let f = function_name i j in
      let p = proof_name i j in
      let h = w.small.first in
      let k = w.small.second in
      let v = value i j (pos 0) in
      let fd = small_name f (function_named i j h k) in
      let pd = small_name p (proof_named i j h k) in
      let equation : Item_formed start (proof_type v f p) =
      proof_signature v f p (function_formed i j h k) (value_fits i j (pos 0)) pd start in (
        imported i j h k,
        (
          imports_formed i j w,
          (
            room quantity.Items 0 refl,
            (
              function_type f fd start,
              (
                room quantity.Items 1 refl,
                (
                  function_clause i j f w fd (behind_type 1) refl,
                  (
                    room quantity.Items 2 refl,
                    (equation, (room quantity.Items 3 refl, (proof_clause p pd (behind_type 3) refl, tt))),
                  ),
                ),
              ),
            ),
          ),
        ),
      )

  -- ---- Main

  line_formed : (f : List ℕ) → Whole (used f) → Whole (tree_of_line f)
  line_formed f h =
      one (codes "putLine") (call (codes "showInt") (call f (literal (pos 1) ∷ []) ∷ []))
      (used_formed (codes "putLine") refl put_line)
      (one (codes "showInt") (call f (literal (pos 1) ∷ [])) (used_formed (codes "showInt") refl show_int)
      (one f (literal (pos 1)) h (literal_formed (pos 1) (omega arith))))

  main_signature : (at : Place) → Item_formed at (typed (codes "main") (call (codes "IO") (used (codes "Unit") ∷ [])))
  main_signature at =
      let type =
      one (codes "IO") (used (codes "Unit")) (used_formed (codes "IO") refl io) (used_formed (codes "Unit") refl unit) in
      (refl, ((refl, main_small), (type, omega arith)))

  -- the lines of four functions
  main_lines : (a b c d : List ℕ) → Whole (used a) → Whole (used b) → Whole (used c) → Whole (used d) →
      (at : Place) → at.clauses ≡ 0 → Item_formed at (main_clause (a ∷ b ∷ c ∷ d ∷ []))
  main_lines a b c d ha hb hc hd at e = (
    (refl, main_small),
    (
      no_clauses at (codes "main") e,
      (
        (tt, omega arith),
        (
          (
            (line_formed a ha).0,
            (
              refl,
              (
                room quantity.Statements 1 refl,
                (
                  (line_formed b hb).0,
                  (
                    refl,
                    (
                      room quantity.Statements 2 refl,
                      ((line_formed c hc).0, (refl, (room quantity.Statements 3 refl, ((line_formed d hd).0, refl)))),
                    ),
                  ),
                ),
              ),
            ),
          ),
          omega arith,
        ),
      ),
    ),
  )

  pub main_formed : (i : ℕ) → i < 2 ^ 64 → formed.Module_formed Fit pass 200 199 (main_tree i)
  main_formed i h =
      let m : (j : ℕ) → j < 2 ^ 64 → formed.Named Fit pass is_name (module_name i j) = λ j k. imported i j h k in
      let f : (j : ℕ) → j < 2 ^ 64 → Whole (used (function_name i j)) = λ j k. function_formed i j h k in
      let lines : Item_formed (behind_type 1) (main_clause (map (function_name i) (below 4))) =
      main_lines (function_name i 0) (function_name i 1) (function_name i 2) (function_name i 3)
      (f 0 (omega arith)) (f 1 (omega arith)) (f 2 (omega arith)) (f 3 (omega arith)) (behind_type 1) refl in (
        (refl, main_big),
        (
          (m 0 (omega arith), (m 1 (omega arith), (m 2 (omega arith), (m 3 (omega arith), tt)))),
          (room quantity.Items 0 refl, (main_signature start, (room quantity.Items 1 refl, (lines, tt)))),
        ),
      )
