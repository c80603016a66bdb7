mod ChainedLemmas
mod LawLemmas
