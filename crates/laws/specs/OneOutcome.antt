-- One outcome per promise: any two outcomes of a call that satisfy its promise are equal, what lent storage holds afterwards included.
use Rattle.std.specs.Prelude.{◌≡◌, List, ℕ}
use borrow.Fn.Kinds.{ParamKind, ResultKind, Dens, Out, res_t, ended_of}
use denote.Triple.Clauses.{Ended, Clauses, Lasts, at_exit}
use denote.Triple.Entry.{Args, Res}
use contract.Lifetimes.{Lfts}
use contract.Monad.{fact}
use seplogic.Ra.Ura.{Ura}
use base.Logic.{ent, sep}

-- P is all that a caller learns of a call, of its arguments a, its result z and the last values w of what it was lent.
-- Two outcomes are equal in what `show` shows of the result, and in what lent storage holds.
abbrev pub OneShown : (n : ℕ) (ps : List (ParamKind n)) (r : ResultKind n) → Out n ps r → (S : Lfts n → Type 0) → ((κs : Lfts n) → (res_t r κs).Denot → S κs) → Type 0
OneShown n ps r P S show =
    (κs : Lfts n) (a : Dens κs ps) (z z' : (res_t r κs).Denot) (w w' : Lasts (ended_of n ps r) κs a)
    → P κs a z (at_exit (ended_of n ps r) κs a w)
    → P κs a z' (at_exit (ended_of n ps r) κs a w')
    → ◌≡◌ {A = S κs × Lasts (ended_of n ps r) κs a} (show κs z, w) (show κs z', w')

-- all of the result
abbrev pub OneOutcome : (n : ℕ) (ps : List (ParamKind n)) (r : ResultKind n) → Out n ps r → Type 0
OneOutcome n ps r P = OneShown n ps r P (λ κs. (res_t r κs).Denot) (λ κs z. z)

-- the same of a function over a struct that holds a reference: c is its promise as it is generated, g what the promise names beside the arguments
abbrev pub OneWalked : {M : Type 1} (𝓤 : Ura M) (T : Ended) → Clauses 𝓤 T → Type 1
OneWalked 𝓤 T c =
    (κs : Lfts T.signature.lifetimes) (a : Args T.signature κs) (g : (c κs a).ghost) (z z' : Res T.signature κs) (w w' : Lasts T κs a)
    → ent 𝓤 (sep 𝓤 ((c κs a).ensures g z (at_exit T κs a w)) ((c κs a).ensures g z' (at_exit T κs a w')))
    (fact 𝓤 (◌≡◌ {A = Res T.signature κs × Lasts T κs a} (z, w) (z', w')))
