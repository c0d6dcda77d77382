use Rattle.std.proofs.Common.{◌≡◌, ◌⊎◌, ◌∙◌, ap, sym, refl, true, false, map, string_bytes, inl, inr, [], ◌∷◌, suc, length, ne_eqb, arith}
use Rattle.std.proofs.lemmas.Result.{IfOk-weaker}
use Rattle.clap.specs.Words.{IsAmong, Kinds, app_of, fault_of, found_of, is_simple, is_simple_and_free, kind_of, matches_of}
use Rattle.clap.specs.Walk.{is_empty}
use Rattle.clap.specs.declared.error.kind.ErrorKind.{ErrorKind}
use Rattle.clap.specs.declared.error.kind.ErrorKind.TheVariants.{OutOfMemory}
use Rattle.qtt_words.specs.Asked.{module_name}
use Rattle.qtt_words.specs.Clap.{qtt_app}
use Rattle.qtt_words.proofs.Alike.{matches_ask, refused, taken}
use Rattle.qtt_words.proofs.line.read_words.Goals as goal

is_exact : is_simple_and_free qtt_app ≡ true
is_exact = refl

has_matches : is_simple qtt_app ≡ true
has_matches = refl

-- a kind that is not want of memory is a fault's
some_fault : (k : ErrorKind) (kinds : Kinds) → (k ≡ OutOfMemory → ⊥) → (k ≡ OutOfMemory) ⊎ IsAmong k kinds
    → is_empty kinds ≡ false
some_fault k kinds other (inl memory) = absurd (other memory)
some_fault k [] other (inr among) = absurd among
some_fault k (x ∷ xs) other (inr among) = ne_eqb (suc (length xs)) 0 (λ e. omega arith)

pub returns-in-Ok : goal.returns-in-Ok
returns-in-Ok c =
    let line : app_of c.in_ok-line.field-0 ≡ qtt_app = c.in_ok-line.ensures in
    let words = map string_bytes c.args.words.now in
    let rows = (c.in-Ok.ensures.matches (ap is_simple line ∙ has_matches)).0 ∙ ap (λ a. matches_of a words) line in
    let without =
    sym (ap (λ a. fault_of a words) line) ∙ c.in-Ok.ensures.kinds (ap is_simple_and_free line ∙ is_exact) in
    let asks = matches_ask module_name (found_of c.in-Ok.matches) (matches_of qtt_app words) rows in
    IfOk-weaker c.read_matches.result _ _ (λ r h. h ∙ (asks ∙ taken c.args.words.now without)) c.read_matches.ensures

pub returns : goal.returns
returns c =
    let line : app_of c.in_ok-line.field-0 ≡ qtt_app = c.in_ok-line.ensures in
    let words = map string_bytes c.args.words.now in
    let fault =
    some_fault (kind_of c.in-Err.error) (fault_of (app_of c.in_ok-line.field-0) words)
    (λ e. c.in_default.not-OutOfMemory (c.kind.ensures ∙ e))
    (c.in-Err.ensures.kinds (ap is_simple_and_free line ∙ is_exact)) in
    sym (refused c.args.words.now (ap (λ a. is_empty (fault_of a words)) (sym line) ∙ fault))
