-- The answers to an operation that is tried, case by case.
use Rattle.g_shared.specs.declared.tried.Tried.{Tried}
use Rattle.g_shared.specs.declared.tried.Tried.TheVariants.{Done, NotYet, Memory}

abbrev pub IfDone : {R O : Type 0} → Tried R O → (R → Type 0) → Type 0
IfDone (Done reply) P = P reply
IfDone (NotYet o) P = Unit {0}
IfDone Memory P = Unit {0}

abbrev pub IfNotYet : {R O : Type 0} → Tried R O → (O → Type 0) → Type 0
IfNotYet (Done reply) P = Unit {0}
IfNotYet (NotYet o) P = P o
IfNotYet Memory P = Unit {0}

abbrev pub OnMemory : {R O : Type 0} → Tried R O → Type 0 → Type 0
OnMemory (Done reply) P = Unit {0}
OnMemory (NotYet o) P = Unit {0}
OnMemory Memory P = P
