pub mod Numbers
pub mod First
pub mod Order
pub mod Delivery
