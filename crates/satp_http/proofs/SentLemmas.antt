-- Lists of requests and answers, one list behind the other.
use Rattle.std.proofs.Common.{◌≡◌, ℕ, List, [], ◌∷◌, ◌++◌, refl}
use Rattle.std.specs.List.{AllByRecursion}
use Rattle.satp_http.specs.Heads.{Sender, server}
use Rattle.satp_http.specs.Table.{interim_after}
use Rattle.satp_http.specs.HttpText.{Sent, AreSent, interim_behind}
use Rattle.satp_http.specs.Feeds.{IsInterim}

pub behind-append : (by : Sender) (n : ℕ) (xs ys : List (Sent by)) → interim_behind by n (xs ++ ys) ≡ interim_behind by (interim_behind by n xs) ys
behind-append by n [] ys = refl
behind-append by n (x ∷ xs) ys = behind-append by (interim_after by n x.head) xs ys

pub sent-append : (by : Sender) (n : ℕ) (xs ys : List (Sent by)) → AreSent by n xs → AreSent by (interim_behind by n xs) ys → AreSent by n (xs ++ ys)
sent-append by n [] ys a b = b
sent-append by n (x ∷ xs) ys a b = (a.0, sent-append by (interim_after by n x.head) xs ys a.1 b)

pub interim-append : (xs ys : List (Sent server)) → AllByRecursion IsInterim xs → AllByRecursion IsInterim ys → AllByRecursion IsInterim (xs ++ ys)
interim-append [] ys a b = b
interim-append (x ∷ xs) ys a b = (a.0, interim-append xs ys a.1 b)
