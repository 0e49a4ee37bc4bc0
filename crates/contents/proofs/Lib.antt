-- Firsts: the first item with an octet, through an item that is met. Parts: the items of an opening. Orders: two slots in order.
-- Seeing: a pass that counts the items with an octet and keeps the first. Gathering: the pass for five octets.
pub mod Firsts
pub mod Parts
pub mod Orders
pub mod Seeing
pub mod Gathering
