-- Laws of a level 1 sheet and of the rows that it is made from.
pub mod Laws
