pub mod NearHand
