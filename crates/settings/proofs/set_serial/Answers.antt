use mathlib.Core.Path.{refl}
use Rattle.settings.proofs.Laws.{serial_kept, serial_stored}
use Rattle.outcome.proofs.Laws.{obeys_two, obeys_set_two, sending_with}
use borrow.Author.Rules.{rules}
use Rattle.settings.proofs.set_serial.Goals as goal

pub returns-then-stored : goal.returns-then-stored
returns-then-stored c = obeys_two _ _ _ (sending_with refl c.two_bytes.ensures c.sending.ensures) (λ p. refl) (λ h g s p. serial_kept _ _ _ _ c.serial_in-stored.ensures (search rules))

pub returns : goal.returns
returns c = obeys_set_two _ _ _ _ (sending_with refl c.two_bytes-2.ensures c.sending-2.ensures) (λ p. c.set_serial.ensures) (λ h g s p. serial_stored _ _ _ _ c.serial_in-stored.ensures (search rules))
