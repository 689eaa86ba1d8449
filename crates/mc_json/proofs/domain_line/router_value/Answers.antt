use Rattle.std.proofs.Common.{Option, ap}
use Rattle.std.specs.Prelude.{unwrap_or}
use Rattle.mc_text.specs.declared.text.addr.Order.{Order}
use Rattle.mc_text.specs.declared.text.addr.Order.TheVariants.{Little}
use Rattle.mc_json.proofs.domain_line.router_value.Goals as goal

-- The two members are added one by one; a listed router has an order of bytes, and the word is that of this
-- order.
pub returns : goal.returns
returns c = record {
  value = (
      let order = ap (λ (o : Option Order). unwrap_or o Little) c.order.ensures.item in
      rw (order, ← c.order_word-order.ensures)
      (c.object.ensures _ (c.text.ensures _ (c.router.ensures _ c.new.ensures))));
}
