-- Where the trees and the faults of the grammar stand.
use Rattle.std.proofs.Common.{◌≡◌, Bool, true, false, cond, List, [], ◌∷◌, Result, Ok, Err, sym, subst}
use Rattle.qtt_base.specs.declared.place.Span.{Span}
use Rattle.qtt_lexer.specs.Lexed.{Mistake}
use Rattle.qtt_layout.specs.declared.laid.Laid.{Laid}
use Rattle.qtt_layout.specs.declared.laid.Laid.TheVariants.{Open, Next, Close, Tok}
use Rattle.qtt_syntax.specs.Tree.{Module}
use Rattle.qtt_phrase.specs.Reading.{Kind}
use Rattle.qtt_phrase.specs.Reading.Kind.{unexpected, too_deep}
use Rattle.qtt_phrase.specs.Reading.Read.{got, bad, over}
use Rattle.qtt_grammar.specs.declared.class.Pass.TheVariants.{Counts}
use Rattle.qtt_grammar.specs.declared.lexeme.Lexeme.{Lexeme}
use Rattle.qtt_grammar.specs.declared.stop.Excess.{Excess}
use Rattle.qtt_grammar.specs.ChainReaders.{text_chain_at}
use Rattle.qtt_grammar.specs.Joined.{joined as joined_reading, read_whole}
use Rattle.qtt_grammar.specs.Lexeme.{lexeme_of, takes_number, joined, lexemes}
use Rattle.qtt_grammar.specs.Outcome.{is_before}
use Rattle.qtt_grammar.specs.Parsed.{place_of_first, bad_token, whole, parsed}
use Rattle.qtt_grammar.specs.Readers.{text_at}
use Rattle.qtt_grammar.proofs.TokenPlaces.{token_place, token_number_place}
use Rattle.qtt_reading_laws.specs.Standing.{Each, Module_stands}
use Rattle.qtt_reading_laws.proofs.Keeping.{Reading, Fair, Kept}
use Rattle.qtt_reading_laws.proofs.Levels.{Any}
use Rattle.qtt_reading_laws.proofs.Items.{a_text}
use Rattle.qtt_reading_laws.proofs.Chains.{a_chain}
use Rattle.qtt_reading_laws.proofs.Tokens.{Mark_stands}

module _ (P : Span → Type 0) where
  -- ---- lexemes

  lexeme_fair : (m : Laid) → Mark_stands P m → Fair P (lexeme_of m)
  lexeme_fair (Open s) h = (h, h)
  lexeme_fair (Next s) h = (h, h)
  lexeme_fair (Close s) h = (h, h)
  lexeme_fair (Tok t) h = (
    subst P (sym (token_place t.kind t.span t.text)) h,
    subst P (sym (token_number_place t.kind t.span t.text)) h,
  )

  joined_case : (b : Bool) (x y : Lexeme) (ls : List Lexeme) → Fair P x → Each (Fair P) (y ∷ ls) →
      Each (Fair P) (cond b (record x { number = y.number; number_place = y.place } ∷ ls) (x ∷ y ∷ ls))
  joined_case true x y ls h k = ((h.0, k.0.0), k.1)
  joined_case false x y ls h k = (h, k)

  joined_fair : (x : Lexeme) (ls : List Lexeme) → Fair P x → Each (Fair P) ls → Each (Fair P) (joined x ls)
  joined_fair x [] h k = (h, tt)
  joined_fair x (y ∷ ls) h k = joined_case (takes_number x y) x y ls h k

  pub lexemes_fair : (ms : List Laid) → Each (Mark_stands P) ms → Each (Fair P) (lexemes ms)
  lexemes_fair [] h = tt
  lexemes_fair (m ∷ ms) h = joined_fair (lexeme_of m) (lexemes ms) (lexeme_fair m h.0) (lexemes_fair ms h.1)

  -- ---- readings

  -- a tree, a fault or tokens that stand there
  abbrev Stood : Reading Module → Type 0
  Stood (got t rest) = Module_stands P t × Each (Fair P) rest
  Stood (bad k rest) = Each (Fair P) rest
  Stood (over e rest) = P e.place

  stood_of : (r other : Reading Module) → Kept P (Module_stands P) r other → Stood r
  stood_of (got t rest) other h = h.1
  stood_of (bad k rest) other h = h
  stood_of (over e rest) other h = h

  earlier_stands : (b : Bool) (e f : Excess) (rest more : List Lexeme) → P e.place → P f.place →
      Stood (cond b (over e rest) (over f more))
  earlier_stands true e f rest more h k = h
  earlier_stands false e f rest more h k = k

  joined_stands : (r : Reading Module) (q : Reading (Unit {0})) → Stood r → Kept P Any q q → Stood (joined_reading r q)
  joined_stands (over e rest) (over f more) h k = earlier_stands (is_before e.place f.place) e f rest more h k
  joined_stands (got t rest) (over f more) h k = k
  joined_stands (bad c rest) (over f more) h k = k
  joined_stands (got t rest) (got a more) h k = h
  joined_stands (bad c rest) (got a more) h k = h
  joined_stands (over e rest) (got a more) h k = h
  joined_stands (got t rest) (bad c more) h k = h
  joined_stands (bad d rest) (bad c more) h k = h
  joined_stands (over e rest) (bad c more) h k = h

  read_stands : (ls : List Lexeme) → Each (Fair P) ls → Stood (read_whole ls)
  read_stands ls fair =
      joined_stands (text_at Counts ls) (text_chain_at ls)
      (stood_of (text_at Counts ls) _ ((a_text P Counts).at ls fair)) ((a_chain P).at ls fair)

  -- ---- what is told

  abbrev Told_stands : Result Module Mistake → Type 0
  Told_stands (Ok t) = Module_stands P t
  Told_stands (Err m) = P m.span

  module _ (first : P (record { line = 1; col = 1; len = 0 })) where
    first_stands : (ls : List Lexeme) → Each (Fair P) ls → P (place_of_first ls)
    first_stands [] fair = first
    first_stands (x ∷ ls) fair = fair.0.0

    bad_stands : (k : Kind) (ls : List Lexeme) → Each (Fair P) ls → P (bad_token k ls).span
    bad_stands unexpected ls fair = first_stands ls fair
    bad_stands too_deep ls fair = first_stands ls fair

    whole_stands : (r : Reading Module) → Stood r → Told_stands (whole r)
    whole_stands (got t []) h = h.0
    whole_stands (got t (x ∷ ls)) h = bad_stands unexpected (x ∷ ls) h.1
    whole_stands (bad k ls) h = bad_stands k ls h
    whole_stands (over e ls) h = h

    parsed_stands : (ms : List Laid) → Each (Mark_stands P) ms → Told_stands (parsed ms)
    parsed_stands ms h = whole_stands (read_whole (lexemes ms)) (read_stands (lexemes ms) (lexemes_fair ms h))

    pub tree_stands : (ms : List Laid) (t : Module) → Each (Mark_stands P) ms → parsed ms ≡ Ok t → Module_stands P t
    tree_stands ms t h e = subst Told_stands e (parsed_stands ms h)

    pub grammar_stands : (ms : List Laid) (m : Mistake) → Each (Mark_stands P) ms → parsed ms ≡ Err m → P m.span
    grammar_stands ms m h e = subst Told_stands e (parsed_stands ms h)
