mod FieldLemmas
mod Picks
mod RoundLemmas
mod VerbLemmas
mod OneSchedule
