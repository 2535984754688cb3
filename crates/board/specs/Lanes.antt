-- Where a deal's quantities stand on the board.
use Rattle.std.specs.Prelude.{ℕ, ◌+◌, ◌-◌, ◌*◌, ◌/◌, Bool, not, ◌&&◌, ◌==◌, nat_le}
use Rattle.board.specs.declared.deal.Deal.{Deal}

-- an agent at a submarket has a lane, with an entry for each hour
abbrev pub lane : ℕ → ℕ → ℕ
lane agent submarket = (agent - 1) * 4 + (submarket - 1)

abbrev pub seller_lane : Deal → ℕ
seller_lane d = lane d.seller d.submarket

abbrev pub buyer_lane : Deal → ℕ
buyer_lane d = lane d.buyer d.submarket

-- the deal by which the buyer sells back what it bought
abbrev pub sold_back : Deal → Deal
sold_back d = record { seller = d.buyer; buyer = d.seller; submarket = d.submarket; source = d.source }

-- the agents that a board with this many entries has room for: none where there is no hour
abbrev pub room_for : ℕ → ℕ → ℕ
room_for entries hours = entries / hours / 4

-- both parties are agents, and two, and the submarket is one of the four
abbrev pub fitting : ℕ → Deal → Bool
fitting agents d =
    nat_le 1 d.seller && nat_le d.seller agents && nat_le 1 d.buyer && nat_le d.buyer agents
    && not (d.seller == d.buyer) && nat_le 1 d.submarket && nat_le d.submarket 4
