-- Whose places in a chain are whose, and what the first two tests of a message say.
use Rattle.std.proofs.Common.{◌≡◌, ℕ, zero, suc, ◌+◌, ◌%◌, ◌==◌, ◌<◌, Bool, true, false, Option, Some, None, refl, sym, ap, ◌∙◌, arith, if◌then◌else◌}
use Rattle.std.specs.Prelude.{List, [], ◌∷◌, is_some}
use Rattle.std.specs.Cmp.Lexicographic.{same_text}
use Rattle.satp_base.specs.Chains.{name_of, role_at}
use Rattle.satp_base.specs.Founding.{equal_names}
use Rattle.satp_base.specs.Roles.{both, negate}
use Rattle.satp_base.specs.Tales.{other}
use Rattle.satp_base.specs.Verdicts.{same_name}
use Rattle.satp_base.specs.declared.message.Message.{Message}
use Rattle.satp_base.specs.declared.message.Role.{Role}
use Rattle.satp_base.specs.declared.message.Role.TheVariants.{Origin, Recipient}
use Rattle.satp_base.specs.declared.name.Name.{Name}
use Rattle.satp_base.specs.declared.session.SessionId.{SessionId}
use Rattle.satp_base.proofs.Exact as exact
use Rattle.satp_base.proofs.GenesisLemmas.{equal_name}
use Rattle.satp_sides.specs.Calls as call
use Rattle.satp_sides.specs.Calls.{first_refusal, is_misaddressed, is_strange, test}
use Rattle.satp_sides.specs.LogLaws.{IsOfRole}
use Rattle.satp_sides.specs.Points.{Party, Slot, Stored, recipient_at, slot_in}
use Rattle.satp_decisions.specs.Steps.{IsOfPeer}
use Rattle.satp_decisions.specs.Tests.{address_refusal}

-- ---- names

module _ (p : Party) (differ : p.name ≡ p.peer → ⊥) (s : SessionId) where
  -- the peer's places are the other role's
  pub peer-place : (role x : Role) → IsOfRole p s role → name_of s (recipient_at p role) x ≡ p.peer → x ≡ other role
  peer-place Origin Origin k e = absurd (differ (sym k ∙ e))
  peer-place Origin Recipient k e = refl
  peer-place Recipient Origin k e = refl
  peer-place Recipient Recipient k e = absurd (differ e)

  pub taker-me : (role : Role) → IsOfRole p s role → name_of s (recipient_at p role) role ≡ p.name
  taker-me Origin k = k
  taker-me Recipient k = refl

pub twice : (role : Role) → other (other role) ≡ role
twice Origin = refl
twice Recipient = refl

pub role-next : (n : ℕ) → role_at (n + 1) ≡ other (role_at n)
role-next n = go (n % 2) refl (omega arith)
  where
    go : (x : ℕ) → n % 2 ≡ x → x < 2 → role_at (n + 1) ≡ other (role_at n)
    go zero e h =
        let more : (n + 1) % 2 ≡ 1 = omega (arith, e) in
        ap (λ x. if x == 1 then Origin else Recipient) more ∙ sym (ap (λ x. other (if x == 1 then Origin else Recipient)) e)
    go (suc zero) e h =
        let more : (n + 1) % 2 ≡ 0 = omega (arith, e) in
        ap (λ x. if x == 1 then Origin else Recipient) more ∙ sym (ap (λ x. other (if x == 1 then Origin else Recipient)) e)
    go (suc (suc x)) e h = absurd (omega (arith, h))

pub same-is : (x y : Name) → same_name x y ≡ true → x ≡ y
same-is x y h = exact.same_text x y (same_text _ _ (sym h))

-- ---- what the first two tests say

passed : (a b : Bool) (s : SessionId) → first_refusal (test a call.Receiver ∷ test b (call.Strange s) ∷ []) ≡ None → (a ≡ false) × (b ≡ false)
passed true b s e = absurd (cc e)
passed false true s e = absurd (cc e)
passed false false s e = (refl, refl)

pub of-peer : (p : Party) (xs : List Stored) (m : Message) → address_refusal p xs m ≡ None → IsOfPeer p xs m
of-peer p xs m e = let (a, b) = passed (is_misaddressed p m) (is_strange p xs m.session) m.session e in record { addressed = a; known = b }

not-both : (x y : Bool) → negate (both x y) ≡ false → (x ≡ true) × (y ≡ true)
not-both true true e = (refl, refl)
not-both true false e = absurd (cc e)
not-both false y e = absurd (cc e)

pub from-peer : (p : Party) (m : Message) → is_misaddressed p m ≡ false → (m.receiver ≡ p.name) × (m.sender ≡ p.peer)
from-peer p m e = let (x, y) = not-both (equal_names m.receiver p.name) (equal_names m.sender p.peer) e in (equal_name m.receiver p.name x, equal_name m.sender p.peer y)

strange-by : (own peer : Bool) (o : Option Slot) → (if own then negate (is_some o) else negate peer) ≡ false → o ≡ None → peer ≡ true
strange-by true peer None e h = absurd (cc e)
strange-by true peer (Some l) e h = absurd (cc h)
strange-by false true o e h = refl
strange-by false false o e h = absurd (cc e)

-- a session that may be spoken of and that no record names is the peer's
pub peer-session : (p : Party) (xs : List Stored) (s : SessionId) → is_strange p xs s ≡ false → slot_in s xs ≡ None → s.gateway ≡ p.peer
peer-session p xs s e none = equal_name s.gateway p.peer (strange-by (equal_names s.gateway p.name) (equal_names s.gateway p.peer) (slot_in s xs) e none)
