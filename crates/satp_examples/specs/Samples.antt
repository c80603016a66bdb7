-- Values that the examples share: names, amounts, sessions and terms.
use Rattle.std.proofs.Common.{refl, lit≤}
use Rattle.std.specs.Prelude.{ℕ, ◌++◌, ◌-◌, ◌≤◌, List, codes, length, replicate, IsTrue}
use Rattle.satp_base.specs.Names.{holds_name}
use Rattle.satp_base.specs.Numbers.{greatest_amount}
use Rattle.satp_base.specs.declared.amount.Amount.{Amount}
use Rattle.satp_base.specs.declared.message.Terms.{Terms}
use Rattle.satp_base.specs.declared.name.Name.{Name}
use Rattle.satp_base.specs.declared.session.SessionId.{SessionId}

-- a name is kept in 32 bytes, zeros behind its own
abbrev kept_in_32 : List ℕ → List ℕ
kept_in_32 text = text ++ replicate (32 - length text) 0

abbrev named : (text : List ℕ) → IsTrue (holds_name (length text) (kept_in_32 text)) → Name
named text valid = record { bytes = kept_in_32 text; count = length text; valid = valid }

-- owners
abbrev pub ann : Name
ann = named (codes "ann") refl

abbrev pub bob : Name
bob = named (codes "bob") refl

-- assets
abbrev pub gold : Name
gold = named (codes "gold") refl

abbrev pub salt : Name
salt = named (codes "salt") refl

-- gateways
abbrev pub alpha : Name
alpha = named (codes "alpha") refl

abbrev pub beta : Name
beta = named (codes "beta") refl

abbrev pub units : (n : ℕ) → 1 ≤ n → n ≤ greatest_amount → Amount
units n low high = record { number = n; low = low; high = high }

abbrev pub alpha_1 : SessionId
alpha_1 = record { gateway = alpha; number = 1; low = lit≤ tt; high = lit≤ tt }

abbrev pub alpha_2 : SessionId
alpha_2 = record { gateway = alpha; number = 2; low = lit≤ tt; high = lit≤ tt }

-- 250 units of gold, from ann to bob
abbrev pub quarter : Terms
quarter = record { amount = units 250 (lit≤ tt) (lit≤ tt); asset = gold; beneficiary = bob; originator = ann }
