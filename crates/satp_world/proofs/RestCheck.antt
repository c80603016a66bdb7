-- The checker computes the tests of all tales: this file imports definitions alone, so that lemmas don't rerun it.
use Rattle.std.proofs.Common.{◌≡◌, Bool, true, refl}
use Rattle.satp_base.specs.declared.message.Role.TheVariants.{Origin, Recipient}
use Rattle.satp_base.proofs.Finite.{all_of}
use Rattle.satp_base.proofs.TaleTable.{tales}
use Rattle.satp_world.proofs.RestTable.{origins_rest, placed_last, recipients_rest}

pub origins_all : (mint assign : Bool) → origins_rest mint assign ≡ true
origins_all mint assign = refl

pub recipients_all : (lock burn rescue : Bool) → recipients_rest lock burn rescue ≡ true
recipients_all lock burn rescue = refl

pub origin_places : all_of (placed_last Origin) tales ≡ true
origin_places = refl

pub recipient_places : all_of (placed_last Recipient) tales ≡ true
recipient_places = refl
