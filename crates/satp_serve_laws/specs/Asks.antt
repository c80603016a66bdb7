-- What a served connection asks of its gateway.
use Rattle.std.specs.Prelude.{◌≡◌, ℕ, List, ◌++◌, length, map, Option}
use Rattle.satp_base.specs.Wires.{Traffic}
use Rattle.satp_http.specs.Feeds.{RequestFeed, no_requests}
use Rattle.satp_http.specs.Runs.{Call, RequestRun, RequestTaken, came, requests_taken}
use Rattle.satp_http.specs.declared.requests.Asked.{Asked}
use Rattle.satp_points.specs.States.{GatewayState}
use Rattle.satp_runs.specs.Asking.{AsksAll}
use Rattle.satp_runs.specs.Asking.Asked.{Handles}
use Rattle.satp_serve.specs.Connections.{ConnectionAnswers}
use Rattle.satp_serve.specs.GatewayReplies.{GatewayReplies, SiteView}
use Rattle.satp_serve.specs.declared.connection.Connection.{Connection}

-- The requests are those that the first of the heard bytes have, so many. The gateway was asked to handle their bodies, one after the other, and nothing else.
pub record AsksBodies (heard : List ℕ) (requests : ℕ) (g h : GatewayState) (before after : SiteView) : Type 0 where
  pub calls : List (Call RequestTaken)
  pub left : RequestFeed
  pub runs : RequestRun no_requests calls left
  pub rest : List ℕ
  pub cut : heard ≡ came calls ++ rest
  pub count : length (requests_taken calls) ≡ requests
  pub asks : AsksAll (map (λ (asked : Asked). Handles asked.body) (requests_taken calls)) g h before.tells after.tells

abbrev pub ConnectionsAsk : Type 0
ConnectionsAsk =
    (g h : GatewayState) (s t : SiteView) (old new : Option Traffic) (before after : ℕ) (connection : Connection)
    → (c : ConnectionAnswers GatewayReplies g s h t old new before after connection) → AsksBodies c.heard connection.requests g h s t
