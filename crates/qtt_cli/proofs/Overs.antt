-- Some texts and some input that are those that are told; and what is done where nothing is.
use Rattle.std.proofs.Common.{◌≡◌, ◌∙◌, ℕ, List, [], Option, Some, None, IfSome, option_map, refl, sym, ap}
use Rattle.std.specs.Option.{ForSome}
use Rattle.std.proofs.lemmas.List.{append-nil}
use Rattle.qtt_prims.specs.Tapes.{Taped}
use Rattle.qtt_edge.specs.Sink.{Adds}
use Rattle.qtt_load.specs.Reading.{Texts}
use Rattle.qtt_run.specs.Front.{Outside}
use Rattle.qtt_cli.specs.Seen.{Seen, Over}
use Rattle.qtt_outcome.specs.Outcome.{tells}
use Rattle.qtt_cli.specs.Parts.{DoesNothing, DoesAll}

-- ---- some that are told
pub some-texts : (told : Option Texts) → (texts : Texts) × IfSome told (λ f. f ≡ texts)
some-texts None = (λ a. None, tt)
some-texts (Some f) = (f, refl)

pub some-input : (told : Option (List ℕ)) → (input : List ℕ) × IfSome told (λ bytes. input ≡ bytes)
some-input None = ([], tt)
some-input (Some bytes) = (bytes, refl)

pub some-over : (s : Seen) → Over s
some-over s =
    let t = some-texts s.texts in
    let i = some-input s.input in
    record { texts = t.0; texts_told = t.1; input = i.0; input_told = i.1 }

-- ---- nothing
pub adds-nothing : (held : Option (List ℕ)) → Adds held held []
adds-nothing None = refl
adds-nothing (Some bytes) = ap (λ (bs : List ℕ). Some bs) (sym (append-nil bytes))

pub no-tapes : (tapes : Option (List Taped)) → ForSome tapes (λ all. all ≡ []) → tapes ≡ option_map (λ _. []) tapes
no-tapes None none = refl
no-tapes (Some all) none = ap (λ (ts : List Taped). Some ts) (none all refl)

-- the output and the tapes stay
pub does-nothing : (output : Option (List ℕ)) (tapes : Option (List Taped)) →
    DoesNothing (record { output_before = output; output = output; tapes_before = tapes; tapes = tapes })
does-nothing output tapes = record { output = adds-nothing output; tapes = refl }

-- a call that only tells something
pub tells-only : (status : ℕ) (said : List ℕ) (s : Outside) → ForSome s.tapes_before (λ all. all ≡ []) →
    DoesNothing s → DoesAll (tells status said) s
tells-only status said s empty d =
    record { output = d.output; tapes = d.tapes ∙ no-tapes s.tapes_before empty }
