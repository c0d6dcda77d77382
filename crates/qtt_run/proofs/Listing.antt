-- Which lists have all definitions that have code.
use Rattle.std.proofs.Common.{◌≡◌, zero, suc, List, [], ◌∷◌, map, Contains, Option, Some, None, option_map, Bool, true, false, cond, eqb, refl, sym, arith}
use mathlib.Core.Path.{ap₂}
use Rattle.std.proofs.lemmas.Bool.{eqb-true}
use Rattle.qtt_base.specs.declared.place.GlobalId.{GlobalId}
use Rattle.qtt_term.specs.Term.{same_id}
use Rattle.qtt_term.specs.Signature.{Definition, Env, There, definition_of}
use Rattle.qtt_term.specs.Keyed.{with_id}
use Rattle.qtt_term.specs.Programs.{item, program, listed}
use Rattle.qtt_term.proofs.Options.{none≢some}
use Rattle.qtt_term.proofs.Same.{same_id-is}
use Rattle.qtt_erase.specs.Lean.{Lean}
use Rattle.qtt_erase.specs.Erasure.{erased_body}
use Rattle.qtt_run.specs.Code.{Lists}

contains-first : {X : Type 0} (x y : X) (xs : List X) → x ≡ y → Contains (x ∷ xs) y
contains-first x y xs e = (zero, omega arith, e)

contains-later : {X : Type 0} (x y : X) (xs : List X) → Contains xs y → Contains (x ∷ xs) y
contains-later x y xs (k, l, e) = (suc k, omega (arith, l), e)

-- what has code is there
coded-there : (E : Env) (o : Option Definition) (t : Lean) →
    erased_body E (definition_of o).mult (definition_of o).body ≡ Some t → There o
coded-there E None t e = absurd (none≢some e)
coded-there E (Some D) t e = tt

pub lists-there : (E : Env) (ds : List GlobalId) → ((d : GlobalId) → There (E.definition d) → Contains ds d) →
    Lists E ds
lists-there E ds h d t e = h d (coded-there E (E.definition d) t e)

-- the ids of entries are those under which entries are found
pub found-listed : {X : Type 0} (key : X → GlobalId) (value : X → Definition) (xs : List X) (d : GlobalId) →
    There (option_map value (with_id key d xs)) → Contains (map key xs) d
found-listed key value [] d h = elim h [ ]
found-listed key value (x ∷ xs) d h = tested (same_id (key x) d) refl h (found-listed key value xs d)
  where
    tested : (b : Bool) → same_id (key x) d ≡ b → There (option_map value (cond b (Some x) (with_id key d xs))) →
        (There (option_map value (with_id key d xs)) → Contains (map key xs) d) → Contains (key x ∷ map key xs) d
    tested true e t next = contains-first (key x) d (map key xs) (same_id-is (key x) d e)
    tested false e t next = contains-later (key x) d (map key xs) (next t)

-- a program of one definition
pub one-listed : (D : Definition) → Lists (program [] ((0, D) ∷ [])) (item 0 ∷ [])
one-listed D = lists-there (program [] ((0, D) ∷ [])) (item 0 ∷ []) (λ d h. at d (eqb d.module.0 1) refl h)
  where
    second : (d : GlobalId) (b : Bool) → eqb d.module.0 1 ≡ true → eqb 0 d.item ≡ b → There (cond b (Some D) None) →
        Contains (item 0 ∷ []) d
    second d true e f h =
        contains-first (item 0) d []
        (ap₂ (λ m i. record { «module» = record { 0 = m }; item = i }) (sym (eqb-true d.module.0 1 e))
        (eqb-true 0 d.item f))
    second d false e f h = elim h [ ]

    at : (d : GlobalId) (b : Bool) → eqb d.module.0 1 ≡ b → There (cond b (listed ((0, D) ∷ []) d.item) None) →
        Contains (item 0 ∷ []) d
    at d true e h = second d (eqb 0 d.item) e refl h
    at d false e h = elim h [ ]
