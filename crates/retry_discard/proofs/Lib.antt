pub mod DeadPlaces
