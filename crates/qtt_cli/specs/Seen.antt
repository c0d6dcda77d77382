-- What is seen of a call from outside.
use Rattle.std.specs.Prelude.{◌≡◌, ℕ, List, Option, IfSome}
use Rattle.qtt_load.specs.Reading.{Texts}
use Rattle.qtt_run.specs.Front.{Outside}
use Rattle.qtt_cli.specs.declared.device.Device.{Device}
use Rattle.qtt_cli.specs.declared.device.Device.TheVariants as device

pub record Seen : Type 1 where
  -- what the vault and the source tell before the call
  pub texts : Option Texts
  pub input : Option (List ℕ)
  -- the output and the tapes, before the call and behind it
  pub outside : Outside
  -- a device's faults rose in the call
  pub failed : Device → Type 0
  -- the vault's misses rose in the call
  pub missed : Type 0

abbrev pub one_of : (vault input output tape : Type 0) → Device → Type 0
one_of vault input output tape device.Vault = vault
one_of vault input output tape device.Input = input
one_of vault input output tape device.Output = output
one_of vault input output tape device.Tape = tape

-- some texts and some input, which are those that are told
pub record Over (s : Seen) : Type 0 where
  pub texts : Texts
  pub texts_told : IfSome s.texts (λ f. f ≡ texts)
  pub input : List ℕ
  pub input_told : IfSome s.input (λ bytes. input ≡ bytes)
