-- Worked examples of what modules declare, by the rules.
use Rattle.std.specs.Prelude.{[], ◌∷◌, codes, Some, None}
use Rattle.qtt_usage.specs.Mult.{𝟙, ω}
use Rattle.qtt_term.specs.Term.{Form, node, ε, Pi, Fam, TextLit}
use Rattle.qtt_term.specs.Signature.{IntTy, BoolTy}
use Rattle.qtt_term.specs.Programs.{item, many, io_unit, put}
use Rattle.qtt_term.specs.Entries.{prim_entries}
use Rattle.qtt_bidi.specs.Programs.{at, here, entry, nat_entry}
use Rattle.qtt_module.specs.ModuleRules.{DeclaresModule}
use Rattle.qtt_module.specs.Rows.{home, keeps, hello, numbers, with_hole, hole_a, signed}

pub record ModuleRuleRows : Type 0 where
  -- main : IO Unit; main = putLine "a"
  pub says_hello : DeclaresModule home prim_entries hello
      (keeps [] (entry 0 (codes "main") (many io_unit (put (TextLit (codes "a")))) ∷ []) 1 (Some (item 0)) [])
  -- data Nat : Type where Z : Nat; S : Nat -> Nat; then f : Nat; f = Z
  pub with_numbers : DeclaresModule home prim_entries numbers
      (keeps (nat_entry ∷ []) (entry 3 (codes "f") (many (Fam (item 0) ε) (node (Form.con (item 0) 0 0) ε)) ∷ []) 1 None
      [])
  -- a definition with a hole has no body
  pub one_hole : DeclaresModule home prim_entries (with_hole (here 0 (codes "x") (at 4 13)))
      (keeps [] (entry 0 (codes "f") (signed ω (Pi 𝟙 IntTy (Pi ω BoolTy IntTy))) ∷ []) 1 None (hole_a ∷ []))
