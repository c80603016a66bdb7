-- The test that a decision comes only where none was made.
use Rattle.std.proofs.Common.{Bool, true, false}
use Rattle.satp_base.specs.declared.message.Role.{Role}
use Rattle.satp_base.specs.declared.message.Role.TheVariants.{Origin, Recipient}
use Rattle.satp_base.specs.declared.ledger.LedgerOp.TheVariants.{Lock, Mint}
use Rattle.satp_base.specs.declared.record.Rec.TheVariants.{Chose}
use Rattle.satp_base.specs.declared.record.Next.{Next}
use Rattle.satp_base.specs.declared.record.Next.TheVariants.{Append, Act}
use Rattle.satp_base.specs.Roles.{no_way, next_of}
use Rattle.satp_base.proofs.Finite.{all_of, implies}
use Rattle.satp_base.proofs.TaleTable.{begun_tales}
use Rattle.satp_sides.specs.Halves.{Half}
use Rattle.satp_world.proofs.HalfTable.{Head, origins, recipients}

-- a decision is due, or an operation behind whose refusal one comes
abbrev pub decides : Next → Bool
decides (Append (Chose way)) = true
decides (Act Lock) = true
decides (Act Mint) = true
decides _ = false

abbrev pub fresh : Role → Half → Bool
fresh role h = implies (decides (next_of role h.view)) (no_way h.view.way)

unfoldable pub fresh_ok : Head → Bool
fresh_ok p = all_of (λ t. all_of (fresh Origin) (origins p t)) begun_tales

unfoldable pub fresh_too : Head → Bool
fresh_too p = all_of (λ t. all_of (fresh Recipient) (recipients p t)) begun_tales
