-- The faults of layout and of the grammar are kept.
use Rattle.std.proofs.Common.{◌≡◌, List, [], ◌∷◌, Option, Some, None, Result, Ok, Err, refl, subst}
use Rattle.qtt_base.specs.Limits.{words_of}
use Rattle.qtt_base.specs.declared.limits.Quantity.{Quantity}
use Rattle.qtt_base.specs.declared.limits.Quantity.TheVariants.{TextBytes, Modules, Items, Constructors, Parts, Clauses, Leaves, Statements, LiteralBytes, TypeNumber, Blocks, Instructions, FilledNodes}
use Rattle.qtt_lexer.specs.Lexed.{Mistake}
use Rattle.qtt_lexer.specs.declared.token.Token.{Token}
use Rattle.qtt_layout.specs.Rules.{State, Put, start, role_of, by_column, put_before, by_put, by_role, put_from, counted_of, laid}
use Rattle.qtt_layout.specs.declared.laid.Laid.{Laid}
use Rattle.qtt_layout.specs.declared.role.Role.{Role}
use Rattle.qtt_layout.specs.declared.role.Role.TheVariants as role
use Rattle.qtt_syntax.specs.Tree.{Module}
use Rattle.qtt_phrase.specs.Reading.{Kind, Read}
use Rattle.qtt_phrase.specs.Reading.Kind.{unexpected, too_deep}
use Rattle.qtt_phrase.specs.Reading.Read.{got, bad, over}
use Rattle.qtt_grammar.specs.Joined.{read_whole}
use Rattle.qtt_grammar.specs.Lexeme.{lexemes}
use Rattle.qtt_grammar.specs.Parsed.{bad_token, whole, parsed}
use Rattle.qtt_grammar.specs.declared.lexeme.Lexeme.{Lexeme}
use Rattle.qtt_grammar.specs.declared.stop.Excess.{Excess}
use Rattle.qtt_diag.specs.Fault.{quantity_named}
use Rattle.qtt_fault_laws.specs.Kept.{IsKept}

abbrev Keeps : {A : Type 0} → Result A Mistake → Type 0
Keeps (Ok a) = Unit {0}
Keeps (Err m) = IsKept m.kind m.word m.count

-- ---- layout

before_keeps : (ms : List Laid) (r : Result (List Laid) Mistake) → Keeps r → Keeps (put_before ms r)
before_keeps ms (Ok rest) h = tt
before_keeps ms (Err m) h = h

put_keeps : (r : Role) (s : State) (t : Token) (o : Option Put) (rest : State → Result (List Laid) Mistake) →
    ((next : State) → Keeps (rest next)) → Keeps (by_put r s t o rest)
put_keeps r s t None rest h = refl
put_keeps r s t (Some put) rest h = before_keeps _ (rest _) (h _)

role_keeps : (r : Role) (s : State) (t : Token) (rest : State → Result (List Laid) Mistake) →
    ((next : State) → Keeps (rest next)) → Keeps (by_role r s t rest)
role_keeps role.End s t rest h = tt
role_keeps role.Opener s t rest h = put_keeps role.Opener s t (by_column s t) rest h
role_keeps role.LeftBracket s t rest h = put_keeps role.LeftBracket s t (by_column s t) rest h
role_keeps role.RightBracket s t rest h = put_keeps role.RightBracket s t (by_column s t) rest h
role_keeps role.Semicolon s t rest h = put_keeps role.Semicolon s t (by_column s t) rest h
role_keeps role.Plain s t rest h = put_keeps role.Plain s t (by_column s t) rest h

from_keeps : (s : State) (ts : List Token) → Keeps (put_from s ts)
unfolding put_from
from_keeps s [] = tt
from_keeps s (t ∷ ts) = role_keeps (role_of t.kind) s t (λ next. put_from next ts) (λ next. from_keeps next ts)

counted_keeps : (r : Result (List Laid) Mistake) → Keeps r → Keeps (counted_of r)
counted_keeps (Ok ms) h = tt
counted_keeps (Err m) h = h

laid_keeps : (ts : List Token) → Keeps (laid ts)
unfolding laid
laid_keeps ts = counted_keeps (put_from start ts) (from_keeps start ts)

pub layout_kept : (ts : List Token) (m : Mistake) → laid ts ≡ Err m → IsKept m.kind m.word m.count
layout_kept ts m e = subst Keeps e (laid_keeps ts)

-- ---- the grammar

quantity_kept : (q : Quantity) → quantity_named (words_of q) ≡ Some q
quantity_kept TextBytes = refl
quantity_kept Modules = refl
quantity_kept Items = refl
quantity_kept Constructors = refl
quantity_kept Parts = refl
quantity_kept Clauses = refl
quantity_kept Leaves = refl
quantity_kept Statements = refl
quantity_kept LiteralBytes = refl
quantity_kept TypeNumber = refl
quantity_kept Blocks = refl
quantity_kept Instructions = refl
quantity_kept FilledNodes = refl

bad_keeps : (k : Kind) (ls : List Lexeme) → let m = bad_token k ls in IsKept m.kind m.word m.count
bad_keeps unexpected ls = refl
bad_keeps too_deep ls = refl

whole_keeps : (r : Read Lexeme Excess Module) → Keeps (whole r)
whole_keeps (got t []) = tt
whole_keeps (got t (x ∷ ls)) = bad_keeps unexpected (x ∷ ls)
whole_keeps (bad k ls) = bad_keeps k ls
whole_keeps (over e ls) = rw (quantity_kept e.quantity) refl

pub grammar_kept : (ms : List Laid) (m : Mistake) → parsed ms ≡ Err m → IsKept m.kind m.word m.count
grammar_kept ms m e = subst Keeps e (whole_keeps (read_whole (lexemes ms)))
