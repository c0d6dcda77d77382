-- Small programs whose erasure tells something, as environments. Items have the numbers that they have in the
-- text.
use Rattle.std.specs.Prelude.{pos, [], ◌∷◌}
use Rattle.qtt_usage.specs.Mult.{𝟘, ω}
use Rattle.qtt_term.specs.Term.{Form, Term, var, node, ε, ◌▸◌, Sort, Pi, Lam, App, Fam, Def, IntLit}
use Rattle.qtt_term.specs.Signature.{Env, IntTy, StringTy}
use Rattle.qtt_term.specs.Programs.{item, program, many, io_unit, put}

-- data Same (x : Type) : Type -> Type where MkSame : Same x x; bad : Same Int String; bad = bad;
-- cast : (0 a : Type) -> (0 b : Type) -> (p : Same a b) -> a -> b; cast a _ MkSame x = x; main = putLine (cast
-- Int String bad 3)
abbrev pub same : Term → Term → Term
same a b = Fam (item 0) (a ▸ b ▸ ε)

abbrev pub casts : Env
casts =
    program ((
      0,
      record {
        params = (𝟘, Sort 0) ∷ [];
        indices = Sort 0 ∷ [];
        level = 0;
        constructors = record { fields = []; results = var 0 ▸ ε } ∷ [];
      },
    ) ∷ [])
    ((2, many (same IntTy StringTy) (Def (item 2)))
    ∷ (
      3,
      many (Pi 𝟘 (Sort 0) (Pi 𝟘 (Sort 0) (Pi ω (same (var 1) (var 0)) (Pi ω (var 2) (var 2)))))
          (Lam 𝟘 (Sort 0) (Lam 𝟘 (Sort 0) (Lam ω (same (var 1) (var 0)) (Lam ω (var 2)
          (node (Form.case ω (item 0) 1 2 (0 ∷ [])) (var 3 ▸ var 1 ▸ var 0 ▸ var 1 ▸ ε)))))),
    )
    ∷ (
      4,
      many io_unit (put (App ω (App ω (App 𝟘 (App 𝟘 (Def (item 3)) IntTy) StringTy) (Def (item 2)))
          (IntLit (pos 3)))),
    ) ∷ [])
