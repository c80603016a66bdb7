-- The tables are complete.
use Rattle.std.proofs.Common.{◌≡◌, Bool, true, false, List, [], ◌∷◌, Option}
use Rattle.satp_base.specs.declared.message.Kind.{Kind}
use Rattle.satp_base.specs.declared.record.Way.{Way}
use Rattle.satp_base.specs.declared.ledger.Entry.{Entry}
use Rattle.satp_base.specs.declared.view.Done.{Done}
use Rattle.satp_sides.specs.Halves.{Half}
use Rattle.satp_sides.proofs.Lists.{bools, entries, in_bools, in_dones, in_entries, in_ways, ways}
use Rattle.satp_world.proofs.HalfTable.{Head, half_with, halves_by, origins, recipients, origin_test, recipient_test}
use Rattle.satp_base.proofs.Finite.{bind, keep, In, In-bind, In-keep}

in_halves : (p : Head) (t : List Kind) (rescues : List Bool) (parts : Done → Option Way → Entry → Bool) (d : Done) (w : Option Way) (r : Bool) (e : Entry) → In r rescues → parts d w e ≡ true → In (half_with p t d w r e) (halves_by p t rescues parts)
in_halves q t rescues parts d w r e i p =
    In-bind (λ d. bind ways (λ w. bind entries (λ e. bind rescues (λ r. keep (parts d w e) (half_with q t d w r e))))) (in_dones d)
    (In-bind (λ w. bind entries (λ e. bind rescues (λ r. keep (parts d w e) (half_with q t d w r e)))) (in_ways w)
    (In-bind (λ e. bind rescues (λ r. keep (parts d w e) (half_with q t d w r e))) (in_entries e)
    (In-bind (λ r. keep (parts d w e) (half_with q t d w r e)) i (In-keep (parts d w e) (half_with q t d w r e) p))))

abbrev pub head_of : Half → Head
head_of h = (h.view.role, h.view.terms)

pub in_origins : (h : Half) → origin_test h.view.tale h.view.done h.view.way h.entry ≡ true → In h (origins (head_of h) h.view.tale)
in_origins h p = in_halves (head_of h) h.view.tale bools (origin_test h.view.tale) h.view.done h.view.way h.view.rescue h.entry (in_bools h.view.rescue) p

pub in_recipients : (h : Half) → In h.view.rescue (false ∷ []) → recipient_test h.view.tale h.view.done h.view.way h.entry ≡ true → In h (recipients (head_of h) h.view.tale)
in_recipients h r p = in_halves (head_of h) h.view.tale (false ∷ []) (recipient_test h.view.tale) h.view.done h.view.way h.view.rescue h.entry r p
