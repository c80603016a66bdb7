use Rattle.std.proofs.Common.{◌∙◌, ℕ, List, [], ◌∷◌, ◌++◌, ap, map, sym}
use Rattle.std.specs.List.{join_with_byte}
use Rattle.std.proofs.lemmas.Simd.{map-map}
use Rattle.satp_base.specs.Canonical.{canonical, kind_of, member, message_member, row}
use Rattle.satp_canon.proofs.writer.write.Goals as goal

pub returns : goal.returns
unfolding canonical
returns c =
    let m = c.args.message.now in
    c.in_ok-append.ensures.ok ∙ ap (λ (t : List ℕ). t ++ 125 ∷ [])
    (c.in_ok-members.ensures ∙ ap (λ (t : List ℕ). t ++ join_with_byte 44 (map (λ name. member (message_member m name)) (row (kind_of m.body)))) c.in_ok-text.ensures
    ∙ ap (λ (ts : List (List ℕ)). 123 ∷ join_with_byte 44 ts) (sym (map-map member (message_member m) (row (kind_of m.body)))))
