-- What the laws on chains say.
use Rattle.std.specs.Prelude.{◌≡◌, ℕ, List, [], ◌∷◌, ◌++◌, take}
use Rattle.satp_base.specs.Canonical.{part_kind}
use Rattle.satp_base.specs.Chains.{ChainOf, next_text}
use Rattle.satp_base.specs.Forms.{IsPart}
use Rattle.satp_base.specs.Signatures.{own}
use Rattle.satp_base.specs.Tales.{IsTale}
use Rattle.satp_base.specs.Verdicts.{next_message, part_of}
use Rattle.satp_base.specs.declared.name.Name.{Name}
use Rattle.satp_base.specs.declared.session.SessionId.{SessionId}
use Rattle.satp_base.specs.declared.message.Part.{Part}
use Rattle.satp_chain.specs.Chained.{Chained, next_signed, state_of, tale_of, texts_in}
use Rattle.satp_chain.specs.Verdicts.{Follows}
use Rattle.satp_chain.specs.declared.signed.Signed.{Signed}

-- the parts determine the texts
abbrev pub OneListOfTexts : Type 0
OneListOfTexts =
    (session : SessionId) (recipient : Name) (key : List ℕ) (parts : List Part) (texts others : List (List ℕ))
    → ChainOf session recipient key parts texts → ChainOf session recipient key parts others → texts ≡ others

-- the texts determine the parts, whatever the keys
abbrev pub OneListOfParts : Type 0
OneListOfParts =
    (session : SessionId) (recipient : Name) (key other : List ℕ) (parts parts' : List Part) (texts : List (List ℕ))
    → ChainOf session recipient key parts texts → ChainOf session recipient other parts' texts → parts ≡ parts'

-- each prefix of a chain is a chain
abbrev pub PrefixesAreChains : Type 0
PrefixesAreChains =
    (session : SessionId) (recipient : Name) (key : List ℕ) (parts : List Part) (texts : List (List ℕ)) (n : ℕ)
    → ChainOf session recipient key parts texts → ChainOf session recipient key (take n parts) (take n texts)

-- What follows is the next message of the chain. Where its text is its own under a key, it is the next text of the chain.
abbrev pub WhatFollows : Type 0
WhatFollows =
    (chain : Chained) (signed : Signed) (key : List ℕ) → Follows chain signed
    → (signed.message ≡ next_message (state_of chain) (part_of signed.message.body))
    × (signed.text ≡ own key signed.message → signed.text ≡ next_text chain.session chain.recipient key (texts_in chain) (part_of signed.message.body))

-- And the next message with a formed part whose kind goes on with the tale follows, with the next text.
abbrev pub NextFollows : Type 0
NextFollows =
    (chain : Chained) (key : List ℕ) (part : Part) → IsTale (tale_of chain) → IsPart part → IsTale (tale_of chain ++ part_kind part ∷ [])
    → Follows chain (next_signed chain key part)
    × ((next_signed chain key part).text ≡ next_text chain.session chain.recipient key (texts_in chain) part)
